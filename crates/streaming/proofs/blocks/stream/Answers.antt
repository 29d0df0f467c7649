use Rattle.std.proofs.Common.{◌∙◌, arith, rules}
use Rattle.streaming.proofs.LoopFacts.{all_put, broken_put, going_none, going_on, unread_put, write_missed}
use Rattle.streaming.proofs.PartLaws.{keeps}
use Rattle.streaming.proofs.blocks.stream.Goals as goal

pub loop-done-init : goal.loop-done-init
loop-done-init g c = record {
  going = going_none c.args.from.now c.args.to.now c.args.engine.now (g.F.Folder.held c.args.folder.now) c.args.lengths.now c.args.room.now
      c.requires.may c.requires.new c.requires.lengths c.requires.room;
  reads = omega arith;
  writes = omega arith;
}

pub returns-in-Err-clause-others : goal.returns-in-Err-clause-others
returns-in-Err-clause-others g c = keeps c.args.to.now.name.now _ _ _ c.loop-done.invariant.going.others c.stream_block.ensures.others

pub returns-in-Err-clause-unread : goal.returns-in-Err-clause-unread
returns-in-Err-clause-unread g c = λ e.
    let stays = c.stream_block.ensures.unread (c.in-Err.is ∙ e) in
    unread_put c.args.from.now c.args.to.now c.args.engine.now (g.F.Folder.held c.args.folder.now) c.args.lengths.now c.loop-done.done c.loop-done.turn c.loop-done.engine
    (g.F.Folder.held c.loop-done.folder) c.loop-done.room c.requires.may c.loop-done.invariant.going c.stream_block.new.engine (g.F.Folder.held c.stream_block.new.folder)
    c.requires.new c.loop-done-test.true stays.1 stays.0

pub returns-in-Err-clause-broken : goal.returns-in-Err-clause-broken
returns-in-Err-clause-broken g c = λ e.
    broken_put c.args.from.now c.args.to.now c.args.engine.now (g.F.Folder.held c.args.folder.now) c.args.lengths.now c.loop-done.done c.loop-done.turn c.loop-done.engine
    (g.F.Folder.held c.loop-done.folder) c.loop-done.room c.requires.may c.loop-done.invariant.going c.min-count.result c.stream_block.new.engine
    (g.F.Folder.held c.stream_block.new.folder) c.requires.new (search rules) (c.stream_block.ensures.broken (c.in-Err.is ∙ e))

pub returns-in-Err-clause-write_failed : goal.returns-in-Err-clause-write_failed
returns-in-Err-clause-write_failed g c = λ e.
    write_missed c.args.to.now.name.now _ (g.F.Folder.held c.args.folder.now) (g.F.Folder.held c.loop-done.folder) _ _ _ c.loop-done.invariant.going.others
    c.loop-done.invariant.going.streamed.3 c.loop-done.invariant.writes (c.stream_block.ensures.write_failed (c.in-Err.is ∙ e))

pub loop-done-preserved : goal.loop-done-preserved
loop-done-preserved g c = record {
  going = going_on c.args.from.now c.args.to.now c.args.engine.now (g.F.Folder.held c.args.folder.now) c.args.lengths.now c.loop-done.done c.loop-done.turn c.loop-done.engine
      (g.F.Folder.held c.loop-done.folder) c.loop-done.room c.requires.may c.loop-done.invariant.going c.min-count.result _ c.stream_block.new.engine
      (g.F.Folder.held c.stream_block.new.folder) c.stream_block.new.room (search rules) (search rules) c.in-Ok.ensures.done c.stream_block.ensures.others c.in-Ok.ensures.count
      c.stream_block.ensures.room_stays;
  reads = search rules;
  writes = search rules;
}

pub returns-clause-done : goal.returns-clause-done
returns-clause-done g c =
    all_put c.args.from.now c.args.to.now c.args.engine.now (g.F.Folder.held c.args.folder.now) c.args.lengths.now c.loop-done.done c.loop-done.turn c.loop-done.engine
    (g.F.Folder.held c.loop-done.folder) c.loop-done.room c.requires.may c.loop-done.invariant.going c.requires.new (search rules)

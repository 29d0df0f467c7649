use Rattle.std.proofs.Common.{arith}
use Rattle.players.proofs.PlayFacts.{playing_none, playing_more, can_turn}
use Rattle.players.proofs.playing.Player.play_block.Goals as goal

pub loop-first-init : goal.loop-first-init
loop-first-init c = playing_none c.args.input.now c.args.channels c.args.pool.now c.args.homes.now c.args.frames c.args.outs.now c.args.self.now c.requires.whole

pub turn-requires : goal.turn-requires
turn-requires c =
    let w = c.sub_block-count.ensures.within in
    let l = c.loop-first.invariant.within in
    can_turn c.args.input.now c.args.channels c.args.pool.now c.args.homes.now c.args.frames c.loop-first.first c.args.outs.now c.args.self.now c.loop-first.outs c.loop-first.self c.requires c.loop-first.invariant
    c.sub_block-count.result c.sub_block-count.ensures.most (let t = c.loop-first-test.true in omega arith)

pub loop-first-preserved : goal.loop-first-preserved
loop-first-preserved c =
    let w = c.sub_block-count.ensures.within in
    let l = c.loop-first.invariant.within in
    playing_more c.args.input.now c.args.channels c.args.pool.now c.args.homes.now c.args.frames c.loop-first.first c.args.outs.now c.args.self.now c.loop-first.outs c.loop-first.self c.requires c.loop-first.invariant
    c.sub_block-count.result c.turn.new.outs c.turn.new.self (let t = c.loop-first-test.true in omega arith) c.turn.ensures.whole c.turn.ensures.len c.turn.ensures.played

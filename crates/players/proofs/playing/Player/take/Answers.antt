use Rattle.std.proofs.Common.{length, refl, ap, ◌∙◌}
use Rattle.std.specs.Vec.{with_items}
use Rattle.std.proofs.lemmas.List.{take_at}
use Rattle.graph_model.specs.Blocks.{planar_frame}
use Rattle.graph_model.specs.Histories.{frame_in}
use Rattle.players.specs.Reads.{IsAlone}
use Rattle.players.proofs.PlayFacts.{alone_are, alone_over, alone_room, has_taken, lines_stay, over_lines, over_sums, over_told, sums_are, within}
use Rattle.players.proofs.playing.Player.take.Goals as goal

pub serve-requires-clause-sums : goal.serve-requires-clause-sums
serve-requires-clause-sums c =
    let is : IsAlone c.args.self.now.wires.items c.args.self.now.lines.items c.args.self.now.ins c.args.pool.now c.args.outs.now c.args.first c.args.count c.in-Some.samples.now
    = alone_over _ _ _ _ c.args.self.now.ins c.args.pool.now c.args.outs.now c.args.first c.args.count c.in-Some.samples.now c.as_slice-wires.ensures.value c.as_slice.ensures.value c.in-Some.ensures.samples in
    alone_room c.args.input.now c.args.channels c.args.pool.now c.args.outs.now c.args.first c.args.count c.args.self.now c.requires c.in-Some.samples.now is

pub serve-requires-clause-within : goal.serve-requires-clause-within
serve-requires-clause-within c =
    let is : IsAlone c.args.self.now.wires.items c.args.self.now.lines.items c.args.self.now.ins c.args.pool.now c.args.outs.now c.args.first c.args.count c.in-Some.samples.now
    = alone_over _ _ _ _ c.args.self.now.ins c.args.pool.now c.args.outs.now c.args.first c.args.count c.in-Some.samples.now c.as_slice-wires.ensures.value c.as_slice.ensures.value c.in-Some.ensures.samples in
    within c.args.input.now c.args.channels c.args.pool.now c.args.outs.now c.args.first c.args.count c.args.self.now c.requires c.in-Some.samples.now
    (alone_are c.args.input.now c.args.channels c.args.pool.now c.args.outs.now c.args.first c.args.count c.args.self.now c.requires c.in-Some.samples.now is)

pub returns-in-Some-clause-taken : goal.returns-in-Some-clause-taken
returns-in-Some-clause-taken c =
    let is : IsAlone c.args.self.now.wires.items c.args.self.now.lines.items c.args.self.now.ins c.args.pool.now c.args.outs.now c.args.first c.args.count c.in-Some.samples.now
    = alone_over _ _ _ _ c.args.self.now.ins c.args.pool.now c.args.outs.now c.args.first c.args.count c.in-Some.samples.now c.as_slice-wires.ensures.value c.as_slice.ensures.value c.in-Some.ensures.samples in
    has_taken c.args.input.now c.args.channels c.args.pool.now c.args.outs.now c.args.first c.args.count c.args.self.now c.requires c.in-Some.samples.now
    (alone_are c.args.input.now c.args.channels c.args.pool.now c.args.outs.now c.args.first c.args.count c.args.self.now c.requires c.in-Some.samples.now is)
    (record { wires = c.args.self.now.wires; lines = c.args.self.now.lines; silent = c.args.self.now.silent; server = c.serve.new.self; ins = c.args.self.now.ins; outs = c.args.self.now.outs; sums = c.args.self.now.sums; told = with_items c.args.self.now.told c.serve.new.told; spare = c.args.self.now.spare })
    refl (lines_stay c.args.input.now c.args.channels c.args.pool.now c.args.outs.now c.args.first c.args.count c.args.self.now c.requires c.in-Some.samples.now is)
    refl refl c.serve.ensures.same c.serve.ensures.holds
    (over_told c.args.self.now.server (frame_in c.args.channels c.args.input.now) (planar_frame c.args.self.now.ins c.args.count c.in-Some.samples.now) c.args.first c.args.count c.args.self.now.outs c.serve.new.told _
    (take_at c.serve.new.told _ c.args.self.now.told.len (c.serve.auto.told ∙ c.as_mut_slice-told.ensures.len)) c.serve.ensures.told)

pub serve-requires-in-None-clause-within : goal.serve-requires-in-None-clause-within
serve-requires-in-None-clause-within c =
    within c.args.input.now c.args.channels c.args.pool.now c.args.outs.now c.args.first c.args.count c.args.self.now c.requires c.gather.new.sums
    (sums_are c.args.input.now c.args.channels c.args.pool.now c.args.outs.now c.args.first c.args.count c.args.self.now c.requires c.gather.new.sums
    (c.gather.auto.sums ∙ ap length c.as_mut_slice-sums.ensures.value)
    (over_sums c.args.pool.now c.args.outs.now c.args.first c.args.count c.gather.new.sums _ _ _ _ _ _ _ _ c.as_slice-wires.ensures.value c.as_slice-in-None.ensures.value c.as_mut_slice.ensures.value (ap length c.as_mut_slice-sums.ensures.value) c.gather.ensures.sums))

pub returns-in-None-clause-taken : goal.returns-in-None-clause-taken
returns-in-None-clause-taken c =
    has_taken c.args.input.now c.args.channels c.args.pool.now c.args.outs.now c.args.first c.args.count c.args.self.now c.requires c.gather.new.sums
    (sums_are c.args.input.now c.args.channels c.args.pool.now c.args.outs.now c.args.first c.args.count c.args.self.now c.requires c.gather.new.sums
    (c.gather.auto.sums ∙ ap length c.as_mut_slice-sums.ensures.value)
    (over_sums c.args.pool.now c.args.outs.now c.args.first c.args.count c.gather.new.sums _ _ _ _ _ _ _ _ c.as_slice-wires.ensures.value c.as_slice-in-None.ensures.value c.as_mut_slice.ensures.value (ap length c.as_mut_slice-sums.ensures.value) c.gather.ensures.sums))
    (record { wires = c.args.self.now.wires; lines = with_items c.args.self.now.lines c.gather.new.lines; silent = c.args.self.now.silent; server = c.serve-in-None.new.self; ins = c.args.self.now.ins; outs = c.args.self.now.outs; sums = with_items c.args.self.now.sums c.gather.new.sums; told = with_items c.args.self.now.told c.serve-in-None.new.told; spare = with_items c.args.self.now.spare c.gather.new.spare })
    refl
    (take_at c.gather.new.lines _ c.args.self.now.lines.len (c.gather.auto.lines ∙ c.as_mut_slice.ensures.len)
    ∙ over_lines c.args.pool.now c.args.outs.now c.args.first c.args.count c.gather.new.lines _ _ _ _ c.as_slice-wires.ensures.value c.as_mut_slice.ensures.value c.gather.ensures.lines)
    refl refl c.serve-in-None.ensures.same c.serve-in-None.ensures.holds
    (over_told c.args.self.now.server (frame_in c.args.channels c.args.input.now) (planar_frame c.args.self.now.ins c.args.count c.gather.new.sums) c.args.first c.args.count c.args.self.now.outs c.serve-in-None.new.told _
    (take_at c.serve-in-None.new.told _ c.args.self.now.told.len (c.serve-in-None.auto.told ∙ c.as_mut_slice-told.ensures.len)) c.serve-in-None.ensures.told)

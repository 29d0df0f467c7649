use Rattle.std.proofs.Common.{◌<◌, suc, sym, subst, arith, All}
use Rattle.graph_model.specs.Graphs.{output_name}
use Rattle.graph_model.specs.Paths.{depth}
use Rattle.graph_model.specs.declared.graph.Uid.{Uid}
use Rattle.plan_model.specs.Schedules.{IsByWaves}
use Rattle.schedule.specs.declared.groups.Entry.{Entry}
use Rattle.schedule.proofs.DepthFacts.{output_depth}
use Rattle.schedule.proofs.LevelFacts.{are_by_waves, groups_within}
use Rattle.schedule.proofs.modes.by_waves.Goals as goal

pub overflow_add-count : goal.overflow_add-count
overflow_add-count c =
    let count = output_depth c.args.graph.now c.in_ok-depths.ensures.sound c.in_ok-depths.depths.items c.in_ok-depths.ensures.depths c.output.result c.index.result.now
    c.output.ensures.within c.output.ensures.name c.index.ensures in
    omega (arith, count.1)

pub grouped-requires : goal.grouped-requires
grouped-requires c =
    let g = c.args.graph.now in
    let count = output_depth c.args.graph.now c.in_ok-depths.ensures.sound c.in_ok-depths.depths.items c.in_ok-depths.ensures.depths c.output.result c.index.result.now
    c.output.ensures.within c.output.ensures.name c.index.ensures in
    subst (λ n. All (λ (e : Entry Uid). e.group < n) c.deref-2.result.now) count.0
    (subst (λ es. All (λ (e : Entry Uid). e.group < suc (depth c.args.graph.now (output_name c.args.graph.now))) es) (sym c.deref-2.ensures.value)
    (groups_within c.args.graph.now c.in_ok-depths.ensures.sound c.in_ok-live.live.items c.in_ok-live.ensures))

pub returns : goal.returns
returns c =
    let g = c.args.graph.now in
    let count = output_depth c.args.graph.now c.in_ok-depths.ensures.sound c.in_ok-depths.depths.items c.in_ok-depths.ensures.depths c.output.result c.index.result.now
    c.output.ensures.within c.output.ensures.name c.index.ensures in
    let by : IsByWaves c.args.graph.now c.in_ok-waves.waves =
    are_by_waves c.args.graph.now c.in_ok-depths.ensures.sound c.in_ok-live.live.items c.in_ok-live.ensures c.in_ok-waves.waves
    (rw (count.0, ← c.deref-2.ensures.value, c.in_ok-waves.ensures) c.in_ok-grouped.ensures) in
    record { by_waves = by; schedule = by.schedule }

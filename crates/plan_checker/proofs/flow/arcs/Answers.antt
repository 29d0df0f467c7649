use Rattle.std.proofs.Common.{arith, below_more}
use Rattle.std.proofs.lemmas.Option.{slice_get_within}
use Rattle.plan_model.specs.Places.{IsArcAt}
use Rattle.plan_model.proofs.PlaceLaws.{arcs_by_entries}
use Rattle.plan_checker.proofs.flow.arcs.Goals as goal

pub returns-then-not-is_arc : goal.returns-then-not-is_arc
returns-then-not-is_arc c g latency is =
    let so_far = c.loop-k.invariant g latency is in
    let bad = c.if-not-is_arc.ensures g latency is so_far in
    ((λ h. bad ((arcs_by_entries g latency c.args.arcs.now).1 h c.loop-k.k)), (so_far, bad))

pub loop-k-preserved : goal.loop-k-preserved
loop-k-preserved c g latency is =
    let so_far = c.loop-k.invariant g latency is in
    below_more (λ k. IsArcAt g latency c.args.arcs.now k) c.loop-k.k so_far (c.if-not-is_arc.ensures g latency is so_far)

pub returns : goal.returns
returns c g latency is =
    (arcs_by_entries g latency c.args.arcs.now).0
    (λ k e at. let l = slice_get_within c.args.arcs.now k e at in c.loop-k.invariant g latency is k (omega arith) e at)

use Rattle.std.proofs.Common.{get_or, arith, below_more}
use Rattle.plan_model.specs.Flows.{IsBalanced}
use Rattle.plan_checker.proofs.FlowFacts.{points_before, all_points, bad_point}
use Rattle.plan_checker.proofs.flow.need.Goals as goal

pub returns-then-not-is_balanced-2 : goal.returns-then-not-is_balanced-2
returns-then-not-is_balanced-2 c g are same =
    let live = c.args.live.now in
    let arcs = c.args.arcs.now in
    let i = c.loop-uid.uid-index in
    let root = c.if-not-is_balanced.ensures g same in
    let bad = bad_point g live are arcs root i c.loop-uid-test.true (c.if-not-is_balanced-2.ensures g same) in
    ((λ h. bad (h (get_or live i 0))), (points_before g live are arcs root i c.loop-uid-test.true (c.loop-uid.invariant g same), bad))

pub loop-uid-preserved : goal.loop-uid-preserved
loop-uid-preserved c g same =
    below_more (λ k. IsBalanced g c.args.arcs.now (get_or c.args.live.now k 0)) c.loop-uid.uid-index (c.loop-uid.invariant g same) (c.if-not-is_balanced-2.ensures g same)

pub returns : goal.returns
returns c g are same =
    all_points g c.args.live.now are c.args.arcs.now (c.if-not-is_balanced.ensures g same) (λ k lt. c.loop-uid.invariant g same k (omega arith))

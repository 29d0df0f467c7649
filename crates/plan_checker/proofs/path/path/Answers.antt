use Rattle.std.proofs.Common.{arith}
use Rattle.std.proofs.lemmas.Bool.Decides.{nat_tests}
use Rattle.plan_model.proofs.PlaceLaws.{path_by_entries}
use Rattle.plan_checker.proofs.path.path.Goals as goal

pub returns-then-not-is_step : goal.returns-then-not-is_step
returns-then-not-is_step c =
    ((λ h. absurd (c.if-not-is_step.ensures (((path_by_entries c.args.g.now c.args.path.now).1 h).1 c.loop-k.k (omega arith)))), (c.loop-k.invariant, c.if-not-is_step.ensures))

pub returns : goal.returns
returns c =
    let no = c.if-is_empty.false in
    let is = c.is_empty.ensures in
    (path_by_entries c.args.g.now c.args.path.now).0 (grind (arith, nat_tests), λ k lt. c.loop-k.invariant k (omega arith))

use Rattle.std.proofs.Common.{◌≡◌, ◌*◌, ◌≤◌, take}
use Rattle.std.specs.Prelude.{sum_by}
use Rattle.plan_checker.proofs.lines.sum.Given as goal

abbrev pub invariant-loop-line : goal.invariant-loop-line
invariant-loop-line l = (l.sum ≡ sum_by (λ x. x.delay) (take l.line-index l.lines)) × (l.sum ≤ 18446744073709551615 * l.line-index)

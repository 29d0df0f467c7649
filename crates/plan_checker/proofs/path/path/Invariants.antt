use Rattle.std.proofs.Common.{ℕ, ◌<◌, map}
use Rattle.plan_model.specs.Places.{IsStep}
use Rattle.plan_checker.proofs.path.path.Given as goal

abbrev pub invariant-loop-k : goal.invariant-loop-k
invariant-loop-k l = (j : ℕ) → j < l.k → IsStep l.g (map (λ u. u.0) l.path) j

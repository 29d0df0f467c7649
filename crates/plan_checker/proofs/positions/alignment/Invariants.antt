use Rattle.std.proofs.Common.{ℕ, ◌<◌}
use Rattle.plan_model.specs.Alignments.{position_in}
use Rattle.plan_model.specs.Places.{IsTimely}
use Rattle.plan_checker.proofs.positions.alignment.Given as goal

abbrev pub invariant-loop-k : goal.invariant-loop-k
invariant-loop-k l = (j : ℕ) → j < l.k → IsTimely l.g (position_in l.at) j

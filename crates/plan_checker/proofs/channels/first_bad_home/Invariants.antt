use Rattle.std.proofs.Common.{ℕ, ◌<◌}
use Rattle.plan_model.specs.Places.{IsHomeAt}
use Rattle.plan_checker.proofs.channels.first_bad_home.Given as goal

abbrev pub invariant-loop-k : goal.invariant-loop-k
invariant-loop-k l = (j : ℕ) → j < l.k → IsHomeAt l.lives l.homes l.channels j

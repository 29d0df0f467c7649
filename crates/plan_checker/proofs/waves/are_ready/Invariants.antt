use Rattle.std.proofs.Common.{ℕ, ◌<◌}
use Rattle.plan_checker.specs.Waves.{IsReady}
use Rattle.plan_checker.proofs.waves.are_ready.Given as goal

abbrev pub invariant-loop-k : goal.invariant-loop-k
invariant-loop-k l = (j : ℕ) → j < l.k → IsReady l.g l.before l.nodes j

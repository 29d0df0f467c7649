use Rattle.std.proofs.Common.{◌≡◌, ℕ, ◌<◌, take, Some}
use Rattle.std.specs.Prelude.{slice_get}
use Rattle.plan_model.specs.Places.{IsNextWave}
use Rattle.plan_model.specs.declared.schedule.Wave.{Wave}
use Rattle.plan_checker.proofs.waves.waves.Given as goal

abbrev pub invariant-loop-k : goal.invariant-loop-k
invariant-loop-k l = (j : ℕ) → j < l.k → (w : Wave) → slice_get l.waves j ≡ Some w → IsNextWave l.g (take j l.waves) w

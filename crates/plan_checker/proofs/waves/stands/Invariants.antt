use Rattle.std.proofs.Common.{◌≡◌, ◌==◌, ℕ, ◌<◌, Some, false}
use Rattle.std.specs.Prelude.{slice_get}
use Rattle.std.specs.List.{list_any}
use Rattle.plan_model.specs.declared.schedule.Wave.{Wave}
use Rattle.plan_checker.proofs.waves.stands.Given as goal

abbrev pub invariant-loop-wave : goal.invariant-loop-wave
invariant-loop-wave l = (k : ℕ) → k < l.wave-index → (w : Wave) → slice_get l.waves k ≡ Some w → list_any (λ u. u.0 == l.uid) w.nodes ≡ false

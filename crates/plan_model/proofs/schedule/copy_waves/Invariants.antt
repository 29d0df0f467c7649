use Rattle.std.proofs.Common.{◌≡◌, take}
use Rattle.plan_model.proofs.schedule.copy_waves.Given as goal

-- the waves so far
abbrev pub invariant-loop-wave : goal.invariant-loop-wave
invariant-loop-wave l = l.copies ≡ take l.wave-index l.wave-items

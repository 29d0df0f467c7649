use Rattle.std.proofs.Common.{◌≡◌, ◌<◌, ℕ, count_by, length, slice_index}
use Rattle.plan_model.specs.Buffers.{need_of_wave}
use Rattle.plan_model.proofs.CountFacts.{is_before}
use Rattle.lifetimes.proofs.needs.Given as goal

abbrev pub invariant-loop-wave : goal.invariant-loop-wave
invariant-loop-wave l = record {
  one_each : length l.needs ≡ l.wave;
  needs : (s : ℕ) → s < l.wave → slice_index l.needs s ≡ need_of_wave l.lives s;
  alive : l.alive ≡ count_by (is_before l.wave) l.lives;
}

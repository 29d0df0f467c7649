use Rattle.std.proofs.Common.{◌≡◌, ◌*◌, ◌/◌, take, drop, map, All}
use Rattle.std.specs.List.{range_with_len}
use Rattle.wav_pcm.specs.Samples.{scaled, sample_of, IsScaled}
use Rattle.wav_pcm.proofs.sample.get_each.Given as goal

abbrev pub invariant-loop-at : goal.invariant-loop-at
invariant-loop-at g l = record {
  samples : take l.at l.into ≡ map (λ k. scaled g.row.BITS (sample_of g.row.BITS (drop (k * (g.row.BITS / 8)) l.bytes))) (range_with_len 0 l.at);
  range : All IsScaled (take l.at l.into);
}

use Rattle.std.proofs.Common.{◌≡◌, ℕ, ℤ, ◌*◌, ◌/◌, length, drop, arith, ap, ◌∙◌, to_z, of_z, w64}
use Rattle.std.proofs.lemmas.Int.{ints}
use Rattle.std.proofs.lemmas.Slice.{between_to_end}
use Rattle.wav_pcm.specs.Samples.{scaled, sample_of, IsScaled}
use Rattle.wav_pcm.proofs.SampleLaws.{map_more, all_more}
use Rattle.wav_pcm.proofs.sample.get_each.Goals as goal

pub loop-at-preserved : goal.loop-at-preserved
loop-at-preserved g c =
    let at = c.loop-at.at in
    let bits = g.row.BITS in
    let bytes = c.args.bytes.now in
    let f : ℕ → ℤ = λ k. scaled bits (sample_of bits (drop (k * (bits / 8)) bytes)) in
    let e : to_z w64 (of_z w64 c.get_scaled.result) ≡ c.get_scaled.result = omega (arith, ints) in
    let r : IsScaled (to_z w64 (of_z w64 c.get_scaled.result)) = rw e c.get_scaled.ensures.range in
    let rest = ap (λ piece. scaled bits (sample_of bits piece)) (between_to_end bytes (at * (bits / 8)) (length bytes) (omega arith)) in
    record {
      samples = map_more f at _ c.loop-at.into (omega arith) (e ∙ c.get_scaled.ensures.value ∙ rest) c.loop-at.invariant.samples;
      range = all_more IsScaled at _ c.loop-at.into (omega arith) r c.loop-at.invariant.range;
    }

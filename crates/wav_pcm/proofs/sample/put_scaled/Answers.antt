use Rattle.std.proofs.Common.{◌/◌, ◌++◌, drop, ap, ◌∙◌}
use Rattle.wav_pcm.specs.Samples.{sample_bytes}
use Rattle.wav_pcm.proofs.SizeFacts.{clamped_is}
use Rattle.wav_pcm.proofs.sample.put_scaled.Goals as goal

pub returns : goal.returns
returns g c =
    let bits = g.row.BITS in
    let e = clamped_is bits c.args.sample c.narrowed.result c.clamp.result c.requires.size c.ranges.sample (record { sfits = c.narrowed.type_inv }) (record { sfits = c.clamp.type_inv }) c.narrowed.ensures c.clamp.ensures.value in
    c.put_sample.ensures ∙ ap (λ x. sample_bytes bits x ++ drop (bits / 8) c.args.into.now) e

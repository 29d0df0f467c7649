use Rattle.std.proofs.Common.{ap, ◌∙◌}
use Rattle.wav_pcm.specs.Samples.{scaled}
use Rattle.wav_pcm.proofs.SizeFacts.{scaled_product}
use Rattle.wav_pcm.proofs.sample.get_scaled.Goals as goal

pub returns-clause-value : goal.returns-clause-value
returns-clause-value g c =
    (scaled_product g.row.BITS c.get_sample.result c.requires.size c.get_sample.ensures.low c.get_sample.ensures.high).0
    ∙ ap (scaled g.row.BITS) c.get_sample.ensures.value

pub returns-clause-range : goal.returns-clause-range
returns-clause-range g c = (scaled_product g.row.BITS c.get_sample.result c.requires.size c.get_sample.ensures.low c.get_sample.ensures.high).1

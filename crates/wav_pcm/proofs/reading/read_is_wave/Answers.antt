use Rattle.std.proofs.Common.{◌∙◌, arith}
use Rattle.wav_pcm.proofs.ToldLaws.{told_more}
use Rattle.wav_pcm.proofs.HeadLaws.{wave_start}
use Rattle.wav_pcm.proofs.reading.read_is_wave.Goals as goal

pub returns-clause-wave : goal.returns-clause-wave
returns-clause-wave g c =
    told_more c.args.name.now (g.F.Folder.held c.args.folder.now) _ _
    (λ bytes is whole. c.is_wave_start.ensures ∙ wave_start bytes c.read_exact_at.new.into is (omega arith))
    c.in_ok-read_exact_at.ensures.bytes

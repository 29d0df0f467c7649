use Rattle.wav_pcm.proofs.HeadLaws.{reading_is_one as law}
use Rattle.wav_pcm.proofs.laws.reading_is_one.Goals as goal

pub returns : goal.returns
returns c = law

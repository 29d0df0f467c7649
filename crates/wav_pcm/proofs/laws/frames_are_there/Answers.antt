use Rattle.wav_pcm.proofs.OkLaws.{frames_are_there as law}
use Rattle.wav_pcm.proofs.laws.frames_are_there.Goals as goal

pub returns : goal.returns
returns c = law

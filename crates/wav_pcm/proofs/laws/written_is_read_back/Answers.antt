use Rattle.wav_pcm.proofs.FileLaws.{written_is_read_back as law}
use Rattle.wav_pcm.proofs.laws.written_is_read_back.Goals as goal

pub returns : goal.returns
returns c = law

use Rattle.std.proofs.Common.{arith}
use Rattle.wav_pcm.proofs.laws.most_data_is_counted.Goals as goal

pub returns-clause-most : goal.returns-clause-most
returns-clause-most c d = (λ counted. omega arith, λ few. omega arith)

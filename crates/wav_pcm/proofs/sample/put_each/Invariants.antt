use Rattle.std.proofs.Common.{◌≡◌, ◌*◌, ◌/◌, take}
use Rattle.wav_pcm.specs.Samples.{bytes_of}
use Rattle.wav_pcm.proofs.sample.put_each.Given as goal

abbrev pub invariant-loop-at : goal.invariant-loop-at
invariant-loop-at g l = take (l.at * (g.row.BITS / 8)) l.bytes ≡ bytes_of g.row.BITS (take l.at l.samples)

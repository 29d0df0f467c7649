use Rattle.std.proofs.Common.{◌≡◌, pos, get_or, ◌≤◌, ◌-◌, ◌+◌, ◌*◌, ◌/◌, length, arith, to_z, of_z, w64}
use Rattle.std.proofs.lemmas.Int.{ints}
use Rattle.std.proofs.Common.{mul-le-mul_right, rules}
use Rattle.wav_pcm.proofs.SampleLaws.{written_more}
use Rattle.wav_pcm.proofs.sample.put_each.Goals as goal

pub loop-at-preserved : goal.loop-at-preserved
loop-at-preserved g c =
    let at = c.loop-at.at in
    let width = g.row.BITS / 8 in
    let samples = c.args.samples.now in
    let bytes = c.loop-at.bytes in
    let e : to_z w64 (of_z w64 (get_or samples at (pos 0))) ≡ get_or samples at (pos 0) = search (rules, ints) in
    let most : (at + 1) * width ≤ length samples * width = mul-le-mul_right width (omega arith) in
    written_more g.row.BITS at (length bytes - at * width) _ (pos 0) samples bytes c.put_scaled.new.into _ c.requires.size (omega arith) e (omega arith) c.put_scaled.ensures c.loop-at.invariant

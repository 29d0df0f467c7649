use Rattle.std.proofs.Common.{drop, length-drop, ◌∙◌, arith}
use Rattle.std.proofs.lemmas.List.{take_all}
use Rattle.wav_pcm.proofs.format.subformat_of.Goals as goal

pub returns : goal.returns
returns c =
    let rest = drop 8 c.args.extension.now in
    c.copy_from_slice.ensures.after ∙ take_all 16 rest (omega (arith, length-drop 8 c.args.extension.now, c.told-extension))

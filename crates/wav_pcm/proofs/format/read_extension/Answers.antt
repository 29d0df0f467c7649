use Rattle.std.proofs.Common.{refl, arith}
use Rattle.wav_pcm.proofs.ToldLaws.{told_more}
use Rattle.wav_pcm.proofs.FormatLaws.{extension_some}
use Rattle.wav_pcm.proofs.format.read_extension.Goals as goal

pub returns-clause-extension : goal.returns-clause-extension
returns-clause-extension g c =
    told_more c.args.name.now (g.F.Folder.held c.args.folder.now) _ _
    (λ bytes is. extension_some c.args.chunk.now _ bytes c.read_exact_at.new.into _ _ (omega arith) refl is (omega arith) c.u16_at.ensures c.subformat_of.ensures)
    c.in_ok-read_exact_at.ensures.bytes

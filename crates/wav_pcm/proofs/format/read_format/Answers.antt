use Rattle.std.proofs.Common.{◌≡◌, refl, subst}
use Rattle.gh_outside.specs.Holdings.{HeldBytes}
use Rattle.wav_pcm.specs.Formats.{extension_in}
use Rattle.wav_pcm.proofs.ToldLaws.{told_more, told_both}
use Rattle.wav_pcm.proofs.FormatLaws.{format_from}
use Rattle.wav_pcm.proofs.format.read_format.Goals as goal

pub returns-clause-format : goal.returns-clause-format
returns-clause-format g c =
    let name = c.args.name.now in
    let held = g.F.Folder.held c.args.folder.now in
    let more : HeldBytes name held (λ bytes. c.in_ok-extension.extension ≡ extension_in bytes c.args.chunk.now) =
    subst (λ h. HeldBytes name h (λ bytes. c.in_ok-extension.extension ≡ extension_in bytes c.args.chunk.now)) c.read_exact_at.ensures.held c.in_ok-extension.ensures.extension in
    told_more name held _ _
    (λ bytes told. format_from c.args.chunk.now _ bytes c.read_exact_at.new.into _ _ _ _ _ refl told.0 c.u16_at.ensures c.u16_at-2.ensures c.u32_at.ensures c.u16_at-3.ensures told.1)
    (told_both name held _ _ c.in_ok-read_exact_at.ensures.bytes more)

use Rattle.std.proofs.Common.{◌≡◌, ◌≤◌, ◌∙◌, ap, subst}
use Rattle.std.specs.Prelude.{Result, Ok, Err}
use Rattle.gh_outside.specs.Holdings.{HeldBytes}
use Rattle.wav_pcm.specs.Files.{ReadsAs}
use Rattle.wav_pcm.specs.declared.head.Head.{Head}
use Rattle.wav_pcm.specs.declared.head.HeadFault.{HeadFault}
use Rattle.wav_pcm.specs.declared.head.HeadFault.TheVariants as head_fault
use Rattle.wav_pcm.specs.declared.head.WavFault.{WavFault}
use Rattle.host_modes.specs.Steps.{FindsHead}
use Rattle.host_modes.proofs.EndLaws.{head_found, head_refused, head_there}
use Rattle.host_modes.proofs.reading.recordings.head_under.Goals as goal

other_fault : (r : Result Head HeadFault) (x : HeadFault) (fault : WavFault) → r ≡ Err x → x ≡ head_fault.Wav fault → r ≡ Err head_fault.Failed → ⊥
other_fault r x fault is of failed = let same : head_fault.Wav fault ≡ head_fault.Failed = cc in absurd (cc)

pub returns-in-Err-Wav-clause-stops : goal.returns-in-Err-Wav-clause-stops
returns-in-Err-Wav-clause-stops g c =
    let held = g.F.Folder.held c.args.folder.now in
    let name = c.args.name.now in
    let arm = c.in-Err-Wav in
    head_refused name c.args.graph.now held _ arm.fault
    (λ m. other_fault c.read_head.result arm.field-0 arm.fault arm.is arm.field-0-is (c.read_head.ensures.missed m).0)
    (subst (λ n. HeldBytes name held (λ bytes. ReadsAs n bytes (Err arm.fault))) c.input_channels.ensures.channels
    (c.read_head.ensures.fault arm.fault (arm.is ∙ ap Err arm.field-0-is)))

no_fault : (r : Result Head HeadFault) (head : Head) → r ≡ Ok head → r ≡ Err head_fault.Failed → ⊥
no_fault r head is failed = cc

pub returns-in-Ok-clause-there : goal.returns-in-Ok-clause-there
returns-in-Ok-clause-there g c =
    let held = g.F.Folder.held c.args.folder.now in
    let name = c.args.name.now in
    let channels = c.input_channels.ensures in
    let found : FindsHead name c.args.graph.now c.in-Ok.head held =
    head_found name c.args.graph.now held c.in-Ok.head
    (λ m. no_fault c.read_head.result c.in-Ok.head c.in-Ok.is (c.read_head.ensures.missed m).0)
    (subst (λ n. HeldBytes name held (λ bytes. ReadsAs n bytes (Ok c.in-Ok.head))) channels.channels c.in-Ok.ensures.ok) in
    head_there name c.args.graph.now held c.in-Ok.head
    (subst (λ n. 1 ≤ n) channels.channels channels.least) (subst (λ n. n ≤ 32) channels.channels channels.most) found

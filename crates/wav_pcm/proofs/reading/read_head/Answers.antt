use Rattle.std.proofs.Common.{◌≡◌, ◌∙◌, true, false, length, subst, arith}
use Rattle.std.specs.Prelude.{Ok}
use Rattle.gh_outside.specs.Holdings.{HeldBytes}
use Rattle.wav_pcm.specs.Files.{is_wave}
use Rattle.wav_pcm.specs.declared.head.WavFault.TheVariants.{NotRiff}
use Rattle.wav_pcm.proofs.OkLaws.{checked_ok, head_ok}
use Rattle.wav_pcm.proofs.TellLaws.{same_fault, told_other, told_parts, told_no_format, told_other_format, told_no_head, told_head}
use Rattle.wav_pcm.proofs.reading.read_head.Goals as goal

pub returns-then-not-branch-clause-fault : goal.returns-then-not-branch-clause-fault
returns-then-not-branch-clause-fault g c fault e =
    let is : NotRiff ≡ fault = cc e in
    let other : HeldBytes c.args.name.now (g.F.Folder.held c.length.new.self) (λ bytes. c.in_ok-size.size ≡ length bytes → false ≡ is_wave bytes) =
    subst (λ b. HeldBytes c.args.name.now (g.F.Folder.held c.length.new.self) (λ bytes. c.in_ok-size.size ≡ length bytes → b ≡ is_wave bytes))
    c.if-not-branch.true c.in_ok-read_is_wave.ensures.wave in
    told_other c.args.graph c.args.name.now (g.F.Folder.held c.args.folder.now) (g.F.Folder.held c.length.new.self) c.in_ok-size.size fault
    c.length.ensures.held is c.in_ok-size.ensures.bytes other

pub returns-in_err-chunk-clause-fault : goal.returns-in_err-chunk-clause-fault
returns-in_err-chunk-clause-fault g c fault e =
    let name = c.args.name.now in
    let held = g.F.Folder.held c.args.folder.now in
    let size = c.in_ok-size.size in
    let first = c.in_ok-chunks.chunks.first_format in
    let chunk = c.in_ok-chunks.chunks.first_data in
    let wave : HeldBytes name (g.F.Folder.held c.length.new.self) (λ bytes. size ≡ length bytes → true ≡ is_wave bytes) =
    subst (λ b. HeldBytes name (g.F.Folder.held c.length.new.self) (λ bytes. size ≡ length bytes → b ≡ is_wave bytes)) c.if-not-branch.false c.in_ok-read_is_wave.ensures.wave in
    let parts = told_parts name held (g.F.Folder.held c.length.new.self) (g.F.Folder.held c.read_is_wave.new.folder) size first chunk
    c.length.ensures.held c.read_is_wave.ensures.held c.in_ok-size.ensures.bytes wave c.in_ok-chunks.ensures.found in
    let same = same_fault c.from_residual-in_err-chunk.result c.in_err-chunk.field-0.0 fault c.from_residual-in_err-chunk.ensures.1 e in
    told_no_format c.args.graph name held size first chunk c.in_err-chunk.field-0.0 fault same parts c.in_err-chunk.ensures.whole

pub returns-in_err-format-clause-fault : goal.returns-in_err-format-clause-fault
returns-in_err-format-clause-fault g c fault e =
    let name = c.args.name.now in
    let held = g.F.Folder.held c.args.folder.now in
    let size = c.in_ok-size.size in
    let first = c.in_ok-chunks.chunks.first_format in
    let chunk = c.in_ok-chunks.chunks.first_data in
    let wave : HeldBytes name (g.F.Folder.held c.length.new.self) (λ bytes. size ≡ length bytes → true ≡ is_wave bytes) =
    subst (λ b. HeldBytes name (g.F.Folder.held c.length.new.self) (λ bytes. size ≡ length bytes → b ≡ is_wave bytes)) c.if-not-branch.false c.in_ok-read_is_wave.ensures.wave in
    let parts = told_parts name held (g.F.Folder.held c.length.new.self) (g.F.Folder.held c.read_is_wave.new.folder) size first chunk
    c.length.ensures.held c.read_is_wave.ensures.held c.in_ok-size.ensures.bytes wave c.in_ok-chunks.ensures.found in
    let stays : g.F.Folder.held c.read_chunks.new.folder ≡ held = c.read_chunks.ensures.held ∙ c.read_is_wave.ensures.held ∙ c.length.ensures.held in
    let same = same_fault c.from_residual-in_err-format.result c.in_err-format.field-0.0 fault c.from_residual-in_err-format.ensures.1 e in
    told_other_format c.args.graph name held (g.F.Folder.held c.read_chunks.new.folder) size first chunk c.in_ok-chunk.chunk c.in_ok-read_format.field-0
    c.in_err-format.field-0.0 fault stays same parts c.in_ok-chunk.ensures.whole c.in_ok-read_format.ensures.format c.in_err-format.ensures

pub returns-in_err-head_in-clause-fault : goal.returns-in_err-head_in-clause-fault
returns-in_err-head_in-clause-fault g c fault e =
    let name = c.args.name.now in
    let held = g.F.Folder.held c.args.folder.now in
    let size = c.in_ok-size.size in
    let first = c.in_ok-chunks.chunks.first_format in
    let chunk = c.in_ok-chunks.chunks.first_data in
    let wave : HeldBytes name (g.F.Folder.held c.length.new.self) (λ bytes. size ≡ length bytes → true ≡ is_wave bytes) =
    subst (λ b. HeldBytes name (g.F.Folder.held c.length.new.self) (λ bytes. size ≡ length bytes → b ≡ is_wave bytes)) c.if-not-branch.false c.in_ok-read_is_wave.ensures.wave in
    let parts = told_parts name held (g.F.Folder.held c.length.new.self) (g.F.Folder.held c.read_is_wave.new.folder) size first chunk
    c.length.ensures.held c.read_is_wave.ensures.held c.in_ok-size.ensures.bytes wave c.in_ok-chunks.ensures.found in
    let stays : g.F.Folder.held c.read_chunks.new.folder ≡ held = c.read_chunks.ensures.held ∙ c.read_is_wave.ensures.held ∙ c.length.ensures.held in
    let same = same_fault c.from_residual-in_err-head_in.result c.in_err-head_in.field-0.0 fault c.from_residual-in_err-head_in.ensures.1 e in
    told_no_head c.args.graph name held (g.F.Folder.held c.read_chunks.new.folder) size first chunk c.in_ok-chunk.chunk c.in_ok-read_format.field-0
    c.in_ok-format.format c.in_err-head_in.field-0.0 fault stays same parts c.in_ok-chunk.ensures.whole c.in_ok-read_format.ensures.format c.in_ok-format.ensures
    c.in_err-head_in.ensures

pub returns-clause-ok : goal.returns-clause-ok
returns-clause-ok g c =
    let name = c.args.name.now in
    let held = g.F.Folder.held c.args.folder.now in
    let size = c.in_ok-size.size in
    let first = c.in_ok-chunks.chunks.first_format in
    let chunk = c.in_ok-chunks.chunks.first_data in
    let wave : HeldBytes name (g.F.Folder.held c.length.new.self) (λ bytes. size ≡ length bytes → true ≡ is_wave bytes) =
    subst (λ b. HeldBytes name (g.F.Folder.held c.length.new.self) (λ bytes. size ≡ length bytes → b ≡ is_wave bytes)) c.if-not-branch.false c.in_ok-read_is_wave.ensures.wave in
    let parts = told_parts name held (g.F.Folder.held c.length.new.self) (g.F.Folder.held c.read_is_wave.new.folder) size first chunk
    c.length.ensures.held c.read_is_wave.ensures.held c.in_ok-size.ensures.bytes wave c.in_ok-chunks.ensures.found in
    let stays : g.F.Folder.held c.read_chunks.new.folder ≡ held = c.read_chunks.ensures.held ∙ c.read_is_wave.ensures.held ∙ c.length.ensures.held in
    told_head c.args.graph name held (g.F.Folder.held c.read_chunks.new.folder) size first chunk c.in_ok-chunk.chunk c.in_ok-read_format.field-0
    c.in_ok-format.format (Ok c.in_ok-head_in.field-0) stays parts c.in_ok-chunk.ensures.whole c.in_ok-read_format.ensures.format c.in_ok-format.ensures
    c.in_ok-head_in.ensures

pub head_in-requires-clause-bits : goal.head_in-requires-clause-bits
head_in-requires-clause-bits g c =
    let ok = checked_ok c.args.graph c.in_ok-read_format.field-0 c.in_ok-format.format c.in_ok-format.ensures in
    let size = ok.size in grind arith

pub returns-clause-head : goal.returns-clause-head
returns-clause-head g c =
    let ok = checked_ok c.args.graph c.in_ok-read_format.field-0 c.in_ok-format.format c.in_ok-format.ensures in
    head_ok c.args.graph c.in_ok-size.size c.in_ok-format.format c.in_ok-chunks.chunks.first_data c.in_ok-head_in.field-0 c.requires.least c.requires.most (omega arith) ok
    c.in_ok-chunks.ensures.within c.in_ok-head_in.ensures

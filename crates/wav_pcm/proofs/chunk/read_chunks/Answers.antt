use Rattle.std.proofs.Common.{◌≡◌, subst, sym, arith, rules}
use Rattle.gh_outside.specs.Holdings.{HeldBytes}
use Rattle.wav_pcm.specs.Chunks.{chunk_at}
use Rattle.wav_pcm.proofs.ToldLaws.{told_more, told_both}
use Rattle.wav_pcm.proofs.ChunkLaws.{walked_more, walked_end, walked_data}
use Rattle.wav_pcm.proofs.chunk.read_chunks.Goals as goal

pub returns-then-is_data-clause-found : goal.returns-then-is_data-clause-found
returns-then-is_data-clause-found g c =
    let name = c.args.name.now in
    let held = g.F.Folder.held c.args.folder.now in
    let chunk = c.in_ok-chunk.chunk in
    let begins : HeldBytes name held (λ bytes. chunk ≡ chunk_at c.loop-folder.at bytes) =
    subst (λ h. HeldBytes name h (λ bytes. chunk ≡ chunk_at c.loop-folder.at bytes)) c.loop-folder.invariant.held c.in_ok-chunk.ensures.chunk in
    told_more name held _ _
    (λ bytes told whole. walked_data bytes c.loop-folder.at c.loop-folder.format chunk told.0 (omega arith) (sym c.if-is_data.ensures) (told.1 whole))
    (told_both name held _ _ begins c.loop-folder.invariant.walked)

pub loop-folder-preserved : goal.loop-folder-preserved
loop-folder-preserved g c =
    let name = c.args.name.now in
    let held = g.F.Folder.held c.args.folder.now in
    let chunk = c.in_ok-chunk.chunk in
    let at = c.loop-folder.at in
    let format = c.loop-folder.format in
    let begins : HeldBytes name held (λ bytes. chunk ≡ chunk_at at bytes) =
    subst (λ h. HeldBytes name h (λ bytes. chunk ≡ chunk_at at bytes)) c.loop-folder.invariant.held c.in_ok-chunk.ensures.chunk in
    record {
      held = search rules;
      reads = search rules;
      writes = search rules;
      walked = told_more name held _ _
          (λ bytes told whole. walked_more bytes at 18446744073709551615 c.after-at.result format c.then_some.result c.or-format.result chunk c.is_format.result told.0
          (omega arith) (omega arith) (sym c.if-is_data.ensures) c.is_format.ensures c.after-at.ensures
          c.then_some.ensures c.or-format.ensures (told.1 whole))
          (told_both name held _ _ begins c.loop-folder.invariant.walked);
    }

pub returns-clause-found : goal.returns-clause-found
returns-clause-found g c =
    let name = c.args.name.now in
    let held = g.F.Folder.held c.args.folder.now in
    told_more name held _ _
    (λ bytes walked whole. walked_end bytes c.loop-folder.at c.loop-folder.format (omega arith) (walked whole))
    c.loop-folder.invariant.walked

use Rattle.std.proofs.Common.{◌≡◌, ◌≤◌, ◌-◌, length}
use Rattle.gh_outside.specs.Holdings.{HeldBytes}
use Rattle.wav_pcm.proofs.ChunkLaws.{IsWalked}
use Rattle.wav_pcm.proofs.chunk.read_chunks.Given as goal

abbrev pub invariant-loop-folder : goal.invariant-loop-folder
invariant-loop-folder g l = record {
  held : g.F.Folder.held l.folder ≡ g.F.Folder.held l.fn.folder;
  reads : g.F.Folder.read_faults l.fn.folder ≤ g.F.Folder.read_faults l.folder;
  writes : g.F.Folder.write_faults l.folder ≡ g.F.Folder.write_faults l.fn.folder;
  walked : HeldBytes l.name (g.F.Folder.held l.fn.folder) (λ bytes. l.size ≡ length bytes → IsWalked bytes l.at l.format);
}

abbrev pub decreases-loop-folder : goal.decreases-loop-folder
decreases-loop-folder g l = 18446744073709551615 - l.at

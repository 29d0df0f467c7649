use Rattle.std.proofs.Common.{refl}
use Rattle.wav_pcm.proofs.ToldLaws.{told_more}
use Rattle.wav_pcm.proofs.ChunkLaws.{chunk_in}
use Rattle.wav_pcm.proofs.chunk.read_chunk.Goals as goal

pub returns-clause-chunk : goal.returns-clause-chunk
returns-clause-chunk g c =
    told_more c.args.name.now (g.F.Folder.held c.args.folder.now) _ _
    (λ bytes is. chunk_in c.args.at _ bytes c.read_exact_at.new.into _ _ _ refl is c.mark_at.ensures c.u32_at.ensures refl)
    c.in_ok-read_exact_at.ensures.bytes

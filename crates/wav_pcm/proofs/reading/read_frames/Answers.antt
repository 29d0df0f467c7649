use Rattle.std.proofs.Common.{length}
use Rattle.wav_pcm.proofs.PartLaws.{recorded_told}
use Rattle.wav_pcm.proofs.reading.read_frames.Goals as goal

pub returns-clause-recorded : goal.returns-clause-recorded
returns-clause-recorded g c =
    let f = c.requires.frames in
    recorded_told c.args.name.now (g.F.Folder.held c.args.folder.now) c.args.head.now c.args.first f.0 c.from-frame_size.result (length c.args.into.now) (length c.args.bytes.now)
    c.read_exact_at.new.into c.get_samples.new.into c.requires.head f.1 f.2 c.requires.room c.from-frame_size.ensures c.get_samples.ensures.samples c.in_ok-read_exact_at.ensures.bytes

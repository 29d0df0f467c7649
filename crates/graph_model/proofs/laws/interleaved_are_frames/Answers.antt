use Rattle.graph_model.proofs.BlockLaws.{interleaved_are_frames as law}
use Rattle.graph_model.proofs.laws.interleaved_are_frames.Goals as goal

pub returns : goal.returns
returns c = law

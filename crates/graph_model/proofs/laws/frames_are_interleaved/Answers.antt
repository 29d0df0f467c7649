use Rattle.graph_model.proofs.BlockLaws.{frames_are_interleaved as law}
use Rattle.graph_model.proofs.laws.frames_are_interleaved.Goals as goal

pub returns : goal.returns
returns c = law

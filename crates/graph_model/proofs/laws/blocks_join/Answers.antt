use Rattle.graph_model.proofs.BlockLaws.{blocks_join as law}
use Rattle.graph_model.proofs.laws.blocks_join.Goals as goal

pub returns : goal.returns
returns c = law

use Rattle.graph_model.proofs.PlanarLaws.{stream-before as law}
use Rattle.graph_model.proofs.laws.streams_go_on.Goals as goal

pub returns : goal.returns
returns c = law

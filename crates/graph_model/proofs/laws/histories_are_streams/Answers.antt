use Rattle.graph_model.proofs.StreamTimeLaws.{histories_are_streams as law}
use Rattle.graph_model.proofs.laws.histories_are_streams.Goals as goal

pub returns : goal.returns
returns c = law

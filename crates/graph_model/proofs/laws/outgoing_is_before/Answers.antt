use Rattle.graph_model.proofs.StreamTimeLaws.{outgoing_is_before as law}
use Rattle.graph_model.proofs.laws.outgoing_is_before.Goals as goal

pub returns : goal.returns
returns c = law

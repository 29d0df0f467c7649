use Rattle.graph_model.proofs.StreamTimeLaws.{incoming_is_before as law}
use Rattle.graph_model.proofs.laws.incoming_is_before.Goals as goal

pub returns : goal.returns
returns c = law

use Rattle.graph_model.proofs.GraphTimeLaws.{incoming_formula as law}
use Rattle.graph_model.proofs.laws.incoming_formula.Goals as goal

pub returns : goal.returns
returns c = law

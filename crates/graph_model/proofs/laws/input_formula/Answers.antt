use Rattle.graph_model.proofs.GraphTimeLaws.{input_formula as law}
use Rattle.graph_model.proofs.laws.input_formula.Goals as goal

pub returns : goal.returns
returns c = law

use Rattle.graph_model.proofs.GraphTimeLaws.{output_formula as law}
use Rattle.graph_model.proofs.laws.output_formula.Goals as goal

pub returns : goal.returns
returns c = law

use Rattle.graph_model.proofs.LiveLaws.{output_live as law}
use Rattle.graph_model.proofs.laws.output_is_live.Goals as goal

pub returns : goal.returns
returns c = law

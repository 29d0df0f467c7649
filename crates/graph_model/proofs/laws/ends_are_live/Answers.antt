use Rattle.graph_model.proofs.LiveLaws.{ends_live as law}
use Rattle.graph_model.proofs.laws.ends_are_live.Goals as goal

pub returns : goal.returns
returns c = law

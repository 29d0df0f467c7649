use Rattle.graph_model.proofs.BoundFacts.{bounds_follow as law}
use Rattle.graph_model.proofs.laws.bounds_follow_the_table.Goals as goal

pub returns : goal.returns
returns c = law

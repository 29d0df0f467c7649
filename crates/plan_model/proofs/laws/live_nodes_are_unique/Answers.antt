use Rattle.plan_model.proofs.UniqueLaws.{live_nodes_are_unique as law}
use Rattle.plan_model.proofs.laws.live_nodes_are_unique.Goals as goal

pub returns : goal.returns
returns c = law

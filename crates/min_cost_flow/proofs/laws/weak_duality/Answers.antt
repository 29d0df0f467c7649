use Rattle.min_cost_flow.proofs.DualityLaws.{weak_duality_law}
use Rattle.min_cost_flow.proofs.laws.weak_duality.Goals as goal

pub returns : goal.returns
returns c = weak_duality_law

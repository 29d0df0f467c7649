use Rattle.min_cost_flow.proofs.DualityLaws.{tight_reaches_bound_law}
use Rattle.min_cost_flow.proofs.laws.tight_reaches_bound.Goals as goal

pub returns : goal.returns
returns c = tight_reaches_bound_law

use Rattle.min_cost_flow.proofs.DualityLaws.{tight_is_optimal_law}
use Rattle.min_cost_flow.proofs.laws.tight_is_optimal.Goals as goal

pub returns : goal.returns
returns c = tight_is_optimal_law

use Rattle.plan_model.proofs.SharedLifeLaws.{shared_life_is_found as law}
use Rattle.plan_model.proofs.shared_laws.shared_life_is_found.Goals as goal

pub returns : goal.returns
returns c = law

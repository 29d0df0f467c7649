use Rattle.plan_model.proofs.SharedLifeLaws.{shared_found_is_life as law}
use Rattle.plan_model.proofs.shared_laws.shared_found_is_life.Goals as goal

pub returns : goal.returns
returns c = law

use Rattle.plan_model.proofs.LifeLaws.{found_is_life as law}
use Rattle.plan_model.proofs.laws.found_is_life.Goals as goal

pub returns : goal.returns
returns c = law

use Rattle.plan_model.proofs.MakeLaws.{certified_of as law}
use Rattle.plan_model.proofs.laws.parts_are_certified.Goals as goal

pub returns : goal.returns
returns c = law

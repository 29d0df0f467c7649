use Rattle.plan_model.proofs.SharedOneLaws.{parts_are_certified2 as law}
use Rattle.plan_model.proofs.shared_laws.parts_are_certified2.Goals as goal

pub returns : goal.returns
returns c = law

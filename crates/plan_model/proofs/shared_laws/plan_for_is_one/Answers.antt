use Rattle.plan_model.proofs.SharedOneLaws.{plan_for_is_one as law}
use Rattle.plan_model.proofs.shared_laws.plan_for_is_one.Goals as goal

pub returns : goal.returns
returns c = law

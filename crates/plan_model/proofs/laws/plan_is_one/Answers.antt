use Rattle.plan_model.proofs.OneLaws.{plan_is_one as law}
use Rattle.plan_model.proofs.laws.plan_is_one.Goals as goal

pub returns : goal.returns
returns c = law

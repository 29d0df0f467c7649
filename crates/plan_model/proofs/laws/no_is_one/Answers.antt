use Rattle.plan_model.proofs.RefusalLaws.{no_is_one as law}
use Rattle.plan_model.proofs.laws.no_is_one.Goals as goal

pub returns : goal.returns
returns c = law

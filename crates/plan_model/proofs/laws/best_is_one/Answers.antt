use Rattle.plan_model.proofs.BestLaws.{best_is_one as law}
use Rattle.plan_model.proofs.laws.best_is_one.Goals as goal

pub returns : goal.returns
returns c = law

use Rattle.plan_model.proofs.SharedLaws.{shared_optimum_is_tight as law}
use Rattle.plan_model.proofs.shared_laws.shared_optimum_is_tight.Goals as goal

pub returns : goal.returns
returns c = law

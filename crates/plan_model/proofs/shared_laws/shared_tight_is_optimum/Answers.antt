use Rattle.plan_model.proofs.SharedLaws.{shared_tight_is_optimum as law}
use Rattle.plan_model.proofs.shared_laws.shared_tight_is_optimum.Goals as goal

pub returns : goal.returns
returns c = law

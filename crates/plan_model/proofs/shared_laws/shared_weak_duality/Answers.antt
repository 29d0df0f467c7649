use Rattle.plan_model.proofs.SharedLaws.{shared_weak_duality as law}
use Rattle.plan_model.proofs.shared_laws.shared_weak_duality.Goals as goal

pub returns : goal.returns
returns c = law

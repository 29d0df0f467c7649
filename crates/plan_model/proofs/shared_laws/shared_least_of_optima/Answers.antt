use Rattle.plan_model.proofs.SharedBestLaws.{shared_least_of_optima as law}
use Rattle.plan_model.proofs.shared_laws.shared_least_of_optima.Goals as goal

pub returns : goal.returns
returns c = law

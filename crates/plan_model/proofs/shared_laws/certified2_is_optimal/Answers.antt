use Rattle.plan_model.proofs.SharedCertifiedLaws.{certified2_is_optimal as law}
use Rattle.plan_model.proofs.shared_laws.certified2_is_optimal.Goals as goal

pub returns : goal.returns
returns c = law

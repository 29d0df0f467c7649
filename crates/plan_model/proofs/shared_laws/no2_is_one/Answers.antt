use Rattle.plan_model.proofs.SharedPlaceLaws.{no2_is_one as law}
use Rattle.plan_model.proofs.shared_laws.no2_is_one.Goals as goal

pub returns : goal.returns
returns c = law

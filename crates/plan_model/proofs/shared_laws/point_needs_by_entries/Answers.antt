use Rattle.plan_model.proofs.SharedPlaceLaws.{point_needs_by_entries as law}
use Rattle.plan_model.proofs.shared_laws.point_needs_by_entries.Goals as goal

pub returns : goal.returns
returns c = law

use Rattle.plan_model.proofs.ScheduleLaws.{one_by_one_is_schedule as law}
use Rattle.plan_model.proofs.laws.one_by_one_is_schedule.Goals as goal

pub returns : goal.returns
returns c = law

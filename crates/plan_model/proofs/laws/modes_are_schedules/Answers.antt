use Rattle.plan_model.proofs.ScheduleLaws.{modes_are_schedules as law}
use Rattle.plan_model.proofs.laws.modes_are_schedules.Goals as goal

pub returns : goal.returns
returns c = law

use Rattle.plan_text.proofs.PlanLaws.{text_has_one_plan as law}
use Rattle.plan_text.proofs.laws.text_has_one_plan.Goals as goal

pub returns : goal.returns
returns c = law

use Rattle.plan_text.proofs.PlanLaws.{text_has_no_bad as law}
use Rattle.plan_text.proofs.laws.text_has_no_bad.Goals as goal

pub returns : goal.returns
returns c = law

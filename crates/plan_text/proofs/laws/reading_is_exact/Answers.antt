use Rattle.plan_text.proofs.PlanLaws.{reading_is_exact as law}
use Rattle.plan_text.proofs.laws.reading_is_exact.Goals as goal

pub returns : goal.returns
returns c = law

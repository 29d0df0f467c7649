use Rattle.plan_model.proofs.LastLaws.{output_is_last as law}
use Rattle.plan_model.proofs.laws.output_is_last.Goals as goal

pub returns : goal.returns
returns c = law

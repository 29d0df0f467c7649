use Rattle.plan_model.proofs.SharedSizeLaws.{lines_are_long_enough as law}
use Rattle.plan_model.proofs.shared_laws.lines_are_long_enough.Goals as goal

pub returns : goal.returns
returns c = law

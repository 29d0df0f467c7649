use Rattle.plan_model.proofs.SharedSizeLaws.{lines_are_short as law}
use Rattle.plan_model.proofs.shared_laws.lines_are_short.Goals as goal

pub returns : goal.returns
returns c = law

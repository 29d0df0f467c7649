use Rattle.plan_model.proofs.SizeLaws.{delays_are_small as law}
use Rattle.plan_model.proofs.laws.delays_are_small.Goals as goal

pub returns : goal.returns
returns c = law

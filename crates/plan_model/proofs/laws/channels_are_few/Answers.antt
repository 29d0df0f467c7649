use Rattle.plan_model.proofs.SizeLaws.{channels_are_few as law}
use Rattle.plan_model.proofs.laws.channels_are_few.Goals as goal

pub returns : goal.returns
returns c = law

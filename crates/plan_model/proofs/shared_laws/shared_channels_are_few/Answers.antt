use Rattle.plan_model.proofs.SharedSizeLaws.{shared_channels_are_few as law}
use Rattle.plan_model.proofs.shared_laws.shared_channels_are_few.Goals as goal

pub returns : goal.returns
returns c = law

use Rattle.plan_model.proofs.HomeLaws.{buffers_are_apart as law}
use Rattle.plan_model.proofs.laws.buffers_are_apart.Goals as goal

pub returns : goal.returns
returns c = law

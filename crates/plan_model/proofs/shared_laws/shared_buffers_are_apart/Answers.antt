use Rattle.plan_model.proofs.SharedSizeLaws.{shared_buffers_are_apart as law}
use Rattle.plan_model.proofs.shared_laws.shared_buffers_are_apart.Goals as goal

pub returns : goal.returns
returns c = law

use Rattle.plan_model.proofs.SharedSizeLaws.{shared_have_buffers as law}
use Rattle.plan_model.proofs.shared_laws.shared_have_buffers.Goals as goal

pub returns : goal.returns
returns c = law

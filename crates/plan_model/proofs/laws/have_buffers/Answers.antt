use Rattle.plan_model.proofs.HomeLaws.{have_buffers as law}
use Rattle.plan_model.proofs.laws.have_buffers.Goals as goal

pub returns : goal.returns
returns c = law

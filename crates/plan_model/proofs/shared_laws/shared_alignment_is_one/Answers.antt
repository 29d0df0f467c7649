use Rattle.plan_model.proofs.SharedOneLaws.{shared_alignment_is_one as law}
use Rattle.plan_model.proofs.shared_laws.shared_alignment_is_one.Goals as goal

pub returns : goal.returns
returns c = law

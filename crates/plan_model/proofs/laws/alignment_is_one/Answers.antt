use Rattle.plan_model.proofs.OneLaws.{alignment_is_one as law}
use Rattle.plan_model.proofs.laws.alignment_is_one.Goals as goal

pub returns : goal.returns
returns c = law

use Rattle.graph_model.proofs.BoundLaws.{limiter_never_raises as law}
use Rattle.graph_model.proofs.laws.limiter_never_raises.Goals as goal

pub returns : goal.returns
returns c = law

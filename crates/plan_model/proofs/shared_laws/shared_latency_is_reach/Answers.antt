use Rattle.plan_model.proofs.SharedOneLaws.{shared_latency_is_reach as law}
use Rattle.plan_model.proofs.shared_laws.shared_latency_is_reach.Goals as goal

pub returns : goal.returns
returns c = law

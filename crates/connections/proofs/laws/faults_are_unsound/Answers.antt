use Rattle.connections.proofs.FaultFacts.{stage, fails, all_checks}
use Rattle.connections.proofs.laws.faults_are_unsound.Goals as goal

pub returns : goal.returns
returns c = λ g fault x s. fails g fault x (all_checks g s (stage fault))

use Rattle.connections.proofs.FirstFaultLaws.{first_fault_is_unique}
use Rattle.connections.proofs.laws.first_fault_is_unique.Goals as goal

pub returns : goal.returns
returns c = first_fault_is_unique

use Rattle.std.proofs.Common.{take}
use Rattle.connections.specs.Faults.{UidsDiffer}
use Rattle.connections.proofs.nodes.check_uids.Given as goal

abbrev pub invariant-loop-second : goal.invariant-loop-second
invariant-loop-second l = UidsDiffer (take l.second l.nodes)

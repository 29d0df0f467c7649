use Rattle.std.proofs.Common.{count_by, not}
use Rattle.topology.specs.Taken.{AreTaken}
use Rattle.topology.proofs.orders.take_nodes.Given as goal

abbrev pub invariant-loop-v : goal.invariant-loop-v
invariant-loop-v l = AreTaken l.graph l.links l.taken l.blocks l.order

abbrev pub decreases-loop-v : goal.decreases-loop-v
decreases-loop-v l = count_by not l.taken

use Rattle.headroom.proofs.FoundFacts.{AreSums}
use Rattle.headroom.proofs.found.inputs_of.Given as goal

abbrev pub invariant-loop-connection : goal.invariant-loop-connection
invariant-loop-connection l = AreSums l.graph l.node.uid.0 l.connection-index l.ins.items

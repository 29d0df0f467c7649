use Rattle.topology.proofs.ReachFacts.{AreReached}
use Rattle.topology.proofs.reaches.reaches.Given as goal

abbrev pub invariant-loop-k : goal.invariant-loop-k
invariant-loop-k l = AreReached l.graph l.order l.k l.at.items

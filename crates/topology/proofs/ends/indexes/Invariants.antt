use Rattle.topology.proofs.IndexFacts.{AreIndexesOf}
use Rattle.topology.proofs.ends.indexes.Given as goal

abbrev pub invariant-loop-index : goal.invariant-loop-index
invariant-loop-index l = AreIndexesOf l.nodes l.index l.indexes

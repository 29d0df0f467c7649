use Rattle.schedule.proofs.DepthFacts.{AreDeep}
use Rattle.schedule.proofs.depths.depths.Given as goal

abbrev pub invariant-loop-node : goal.invariant-loop-node
invariant-loop-node l = AreDeep l.graph l.node-items l.node-index l.depths.items

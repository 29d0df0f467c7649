use Rattle.topology.specs.Blocks.{FirstFreeUpTo}
use Rattle.topology.proofs.orders.first_free.Given as goal

abbrev pub invariant-loop-v : goal.invariant-loop-v
invariant-loop-v l = FirstFreeUpTo l.uids l.taken l.blocks l.v l.best

use Rattle.headroom.proofs.FoundFacts.{AreFound}
use Rattle.headroom.proofs.found.found_or_loud.Given as goal

abbrev pub invariant-loop-k : goal.invariant-loop-k
invariant-loop-k l = AreFound l.graph l.order l.k l.found.items

use Rattle.shortest_paths.proofs.LeavingFacts.{IsLeavingTo}
use Rattle.shortest_paths.proofs.leaving.Leaving.new.Given as goal

abbrev pub invariant-loop-index : goal.invariant-loop-index
invariant-loop-index l = IsLeavingTo l.points l.edges l.index l.newest.items l.older.items

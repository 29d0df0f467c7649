use Rattle.std.proofs.Common.{count_by, not}
use Rattle.topology.proofs.MarkFacts.{AreMarks}
use Rattle.topology.proofs.marks.live.Given as goal

abbrev pub invariant-loop : goal.invariant-loop
invariant-loop l = AreMarks l.graph l.marks.items

abbrev pub decreases-loop : goal.decreases-loop
decreases-loop l = count_by not l.marks.items

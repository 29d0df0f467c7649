use Rattle.std.proofs.Common.{length}
use Rattle.plan_text.proofs.NumberLaws.{IsReadTo}
use Rattle.plan_text.proofs.number.numbers.Given as goal

abbrev pub decreases-loop-first : goal.decreases-loop-first
decreases-loop-first l = length l.rest

abbrev pub invariant-loop-first : goal.invariant-loop-first
invariant-loop-first l = IsReadTo l.fn.text l.found l.rest

use Rattle.std.proofs.Common.{◌≡◌, ℕ, Some}
use Rattle.min_cost_flow.specs.Admissible.{LeavesAt}
use Rattle.min_cost_flow.proofs.AdmissibleFacts.{left_of}
use Rattle.min_cost_flow.proofs.admissible.open_from.Given as goal

abbrev pub invariant-loop-next : goal.invariant-loop-next
invariant-loop-next l = (k : ℕ) → l.next ≡ Some k → LeavesAt l.walks.residual.edges.items l.point k

abbrev pub decreases-loop-next : goal.decreases-loop-next
decreases-loop-next l = left_of l.next

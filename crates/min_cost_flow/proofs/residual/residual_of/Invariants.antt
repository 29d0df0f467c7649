use Rattle.std.proofs.Common.{length}
use Rattle.min_cost_flow.proofs.ResidualFacts.{IsResidualTo}
use Rattle.min_cost_flow.proofs.residual.residual_of.Given as goal

abbrev pub invariant-loop-k : goal.invariant-loop-k
invariant-loop-k l = IsResidualTo l.arcs l.k 0 l.residual.edges.items l.residual.steps.items

abbrev pub invariant-loop-j : goal.invariant-loop-j
invariant-loop-j l = IsResidualTo l.arcs (length l.arcs) l.j l.residual.edges.items l.residual.steps.items

use Rattle.std.proofs.Common.{◌≡◌, map, neg_ℤ, take}
use Rattle.min_cost_flow.proofs.solver.potentials.Given as goal

abbrev pub invariant-loop-cost : goal.invariant-loop-cost
invariant-loop-cost l = l.potential ≡ map neg_ℤ (take l.cost-index l.least)

use Rattle.std.proofs.Common.{◌≡◌, map, take}
use Rattle.min_cost_flow.specs.Residual.{forward}
use Rattle.min_cost_flow.proofs.residual.forward_edges.Given as goal

abbrev pub invariant-loop-arc : goal.invariant-loop-arc
invariant-loop-arc l = l.edges.items ≡ map forward (take l.arc-index l.arcs)

use Rattle.std.proofs.Common.{◌≡◌, ℕ, ◌<◌, map}
use Rattle.graph_model.specs.declared.graph.Graph.{Graph}
use Rattle.plan_model.specs.Flows.{network}
use Rattle.plan_model.specs.Places.{IsArcAt}
use Rattle.plan_checker.specs.Networks.{difference}
use Rattle.plan_checker.proofs.flow.arcs.Given as goal

abbrev pub invariant-loop-k : goal.invariant-loop-k
invariant-loop-k l = (g : Graph) (latency : ℕ) → map difference l.constraints ≡ network g latency → (j : ℕ) → j < l.k → IsArcAt g latency l.arcs j

use Rattle.std.proofs.Common.{◌≡◌, ℕ, ◌<◌, get_or}
use Rattle.graph_model.specs.Paths.{live_connections}
use Rattle.graph_model.specs.declared.graph.Graph.{Graph}
use Rattle.plan_model.specs.Flows.{IsBalanced}
use Rattle.plan_checker.proofs.flow.need.Given as goal

abbrev pub invariant-loop-uid : goal.invariant-loop-uid
invariant-loop-uid l = (g : Graph) → l.connections ≡ live_connections g → (k : ℕ) → k < l.uid-index → IsBalanced g l.arcs (get_or l.live k 0)

use Rattle.std.proofs.Common.{◌≡◌, ℕ, ◌≤◌, ◌*◌, ◌^◌, take, map}
use Rattle.std.specs.Prelude.{unsigned_abs}
use Rattle.graph_model.specs.declared.graph.Graph.{Graph}
use Rattle.plan_model.specs.Flows.{flow_weight, network}
use Rattle.plan_checker.specs.Networks.{difference}
use Rattle.plan_checker.proofs.flow.weight.Given as goal

-- the weight so far
abbrev pub invariant-loop-arc : goal.invariant-loop-arc
invariant-loop-arc l = record {
  value : (g : Graph) (latency : ℕ) → map difference l.constraints ≡ network g latency → l.sum ≡ flow_weight g latency (take l.arc-index l.arcs);
  size : unsigned_abs l.sum ≤ l.arc-index * 2 ^ 96;
}

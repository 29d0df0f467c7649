use Rattle.std.proofs.Common.{◌≡◌, ◌≤◌, ◌*◌, ◌^◌, take, sum_by}
use Rattle.graph_model.specs.Graphs.{latency_at}
use Rattle.graph_model.specs.declared.graph.Connection.{Connection}
use Rattle.plan_checker.proofs.flow.latencies.Given as goal

-- the sum so far
abbrev pub invariant-loop-connection : goal.invariant-loop-connection
invariant-loop-connection l = record {
  sum : l.latencies ≡ sum_by (λ (c : Connection). latency_at l.graph c.src.0) (take l.connection-index l.connections);
  small : l.latencies ≤ l.connection-index * 2 ^ 32;
}

use Rattle.std.proofs.Common.{◌≡◌, ◌≤◌, take, length}
use Rattle.std.specs.Prelude.{filter}
use Rattle.graph_model.specs.Paths.{is_live}
use Rattle.graph_model.specs.declared.graph.Connection.{Connection}
use Rattle.connections.proofs.limits.live_connections.Given as goal

abbrev pub invariant-loop-connection : goal.invariant-loop-connection
invariant-loop-connection l = record {
  count : l.count ≡ length (filter (λ (c : Connection). is_live l.graph c.dst.0) (take l.connection-index l.graph.connections));
  few : l.count ≤ l.connection-index;
}

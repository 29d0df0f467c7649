use Rattle.std.proofs.Common.{◌≡◌, map, take, All}
use Rattle.serde_json.specs.View.{view}
use Rattle.graph_records.specs.Typed.{IsTypedConnection}
use Rattle.graph_records.specs.Written.{connection_data}
use Rattle.graph_records.proofs.write.connections_value.Given as goal

abbrev pub invariant-loop-connection : goal.invariant-loop-connection
invariant-loop-connection l = record {
  written : map view l.values.items ≡ map connection_data (take l.connection-index l.connections);
  typed : All IsTypedConnection (take l.connection-index l.connections);
}

use Rattle.std.proofs.Common.{◌≡◌, map, take, All}
use Rattle.serde_json.specs.View.{view}
use Rattle.graph_records.specs.Typed.{IsTypedNode}
use Rattle.graph_records.specs.Written.{node_data}
use Rattle.graph_records.proofs.write.nodes_value.Given as goal

abbrev pub invariant-loop-node : goal.invariant-loop-node
invariant-loop-node l = record {
  written : map view l.values.items ≡ map node_data (take l.node-index l.nodes);
  typed : All IsTypedNode (take l.node-index l.nodes);
}

use Rattle.serde_json.specs.View.{view}
use Rattle.graph_records.specs.Rows.{node_of}
use Rattle.graph_records.proofs.ListFacts.{IsReadTo}
use Rattle.graph_records.proofs.walk.read_nodes.Given as goal

abbrev pub invariant-loop-index : goal.invariant-loop-index
invariant-loop-index l = IsReadTo node_of view l.values l.index l.nodes

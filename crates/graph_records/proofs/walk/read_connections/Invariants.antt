use Rattle.serde_json.specs.View.{view}
use Rattle.graph_records.specs.Rows.{connection_of}
use Rattle.graph_records.proofs.ListFacts.{IsReadTo}
use Rattle.graph_records.proofs.walk.read_connections.Given as goal

abbrev pub invariant-loop-index : goal.invariant-loop-index
invariant-loop-index l = IsReadTo connection_of view l.values l.index l.connections

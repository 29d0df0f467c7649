use Rattle.graph_model.specs.Checks.{AreConnections}
use Rattle.connections.specs.Places.{ArePlaces}
use Rattle.connections.proofs.joints.check_connections.Given as goal

abbrev pub invariant-loop-at : goal.invariant-loop-at
invariant-loop-at l = record {
  connections : AreConnections l.graph l.at;
  places : ArePlaces l.graph.connections l.at l.places;
}

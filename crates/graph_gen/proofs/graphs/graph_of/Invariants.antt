-- What stands and what is still to come are the nodes, and the connections into them.
use Rattle.std.proofs.Common.{◌≡◌, ◌-◌, ◌++◌}
use Rattle.graph_gen.specs.Generated.{nodes_drawn, connections_drawn, generated}
use Rattle.graph_gen.proofs.graphs.graph_of.Given as goal

abbrev pub invariant-loop-uid : goal.invariant-loop-uid
invariant-loop-uid l = record {
  nodes : l.graph.nodes ++ nodes_drawn l.draws.state l.uid (l.uid-end - l.uid) ≡ (generated l.fn.seed l.fn.nodes).nodes;
  connections : l.graph.connections ++ connections_drawn l.draws.state l.uid (l.uid-end - l.uid) ≡ connections_drawn l.fn.seed 3 (l.fn.nodes - 2);
}

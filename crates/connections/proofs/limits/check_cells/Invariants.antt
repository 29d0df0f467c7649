use Rattle.std.proofs.Common.{◌≡◌, ◌≤◌, ◌*◌, ◌^◌, take, sum_by}
use Rattle.graph_model.specs.Kinds.{cells_of}
use Rattle.graph_model.specs.declared.graph.Node.{Node}
use Rattle.connections.proofs.limits.check_cells.Given as goal

abbrev pub invariant-loop-node : goal.invariant-loop-node
invariant-loop-node l = record {
  sum : l.cells ≡ sum_by (λ (n : Node). cells_of n.kind) (take l.node-index l.graph.nodes);
  small : l.cells ≤ l.node-index * 2 ^ 25;
}

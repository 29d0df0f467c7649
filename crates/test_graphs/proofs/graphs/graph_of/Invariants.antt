use Rattle.std.proofs.Common.{◌≡◌, ◌++◌}
use Rattle.test_graphs.proofs.graphs.graph_of.Given as goal

-- those taken so far, and then the rest
abbrev pub invariant-loop-node : goal.invariant-loop-node
invariant-loop-node l = l.list ++ l.node-iterator.rest.items ≡ l.fn.nodes.items

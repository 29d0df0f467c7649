use Rattle.std.proofs.Common.{◌≡◌, take, None}
use Rattle.std.specs.List.{All}
use Rattle.graph_model.specs.Members.{bad_member}
use Rattle.connections.proofs.nodes.check_members.Given as goal

abbrev pub invariant-loop-node : goal.invariant-loop-node
invariant-loop-node l = All (λ n. bad_member n ≡ None) (take l.node-index l.graph.nodes)

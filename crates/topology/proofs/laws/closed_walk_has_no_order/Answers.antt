use Rattle.graph_model.proofs.WalkLaws.{cyclic}
use Rattle.topology.proofs.OrderFacts.{order_is_acyclic}
use Rattle.topology.proofs.laws.closed_walk_has_no_order.Goals as goal

pub returns : goal.returns
returns c = λ g named walk order closed is. cyclic g named.nodes_exist walk closed (order_is_acyclic g order is)

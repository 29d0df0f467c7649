use Rattle.std.proofs.Common.{map}
use Rattle.graph_model.specs.Checks.{IsClosedWalk}
use Rattle.graph_model.proofs.WalkLaws.{cyclic}
use Rattle.graph_model.specs.Named.{uid_at}
use Rattle.topology.specs.Answers.{IsOrderOfNodes}
use Rattle.topology.proofs.OrderFacts.{order_is_acyclic}
use Rattle.topology.proofs.orders.order.Goals as goal

pub returns-in-Ok-clause-acyclic : goal.returns-in-Ok-clause-acyclic
returns-in-Ok-clause-acyclic c =
    let is : IsOrderOfNodes c.args.graph.now c.in-Ok.order = rw c.in-Ok.is at c.in_ok-order.ensures in
    order_is_acyclic c.args.graph.now (map (uid_at c.args.graph.now) c.in-Ok.order) is.order

pub returns-in-Err-clause-cycle : goal.returns-in-Err-clause-cycle
returns-in-Err-clause-cycle c =
    let closed : IsClosedWalk c.args.graph.now c.in-Err.cycle.walk = rw c.in-Err.is at c.in_ok-order.ensures in
    (closed, λ acyclic. cyclic c.args.graph.now c.requires.nodes_exist c.in-Err.cycle.walk closed acyclic)

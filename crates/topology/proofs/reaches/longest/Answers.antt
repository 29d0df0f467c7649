use Rattle.std.proofs.Common.{◌∙◌, ap, map}
use Rattle.std.specs.Prelude.{reverse}
use Rattle.graph_model.specs.Named.{uid_at}
use Rattle.topology.proofs.OrderFacts.{order_is_acyclic}
use Rattle.topology.specs.Reaches.{AreReaches}
use Rattle.topology.proofs.ReachFacts.{are_longest}
use Rattle.topology.proofs.PathFacts.{printed}
use Rattle.topology.proofs.reaches.longest.Goals as goal

pub path_back-requires-clause-acyclic : goal.path_back-requires-clause-acyclic
path_back-requires-clause-acyclic c = order_is_acyclic c.args.graph.now (map (uid_at c.args.graph.now) c.args.order.now) c.requires.order.order

pub returns : goal.returns
returns c =
    let g = c.args.graph.now in
    let at : AreReaches g c.in_ok-from_slice.field-0 = c.in_ok-from_slice.ensures ∙ c.deref-6.ensures.value ∙ c.in_ok-at.ensures in
    record {
      at = at;
      longest = are_longest g c.requires.named (order_is_acyclic g (map (uid_at g) c.args.order.now) c.requires.order.order) c.in_ok-from_slice.field-0 at;
      path = printed c.args.graph.now c.in_ok-path.path.items c.in_ok-reversed.field-0 c.in_ok-path.ensures (c.in_ok-reversed.ensures ∙ ap reverse c.deref-7.ensures.value);
    }

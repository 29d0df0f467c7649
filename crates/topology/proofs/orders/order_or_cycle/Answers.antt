use Rattle.std.proofs.Common.{◌≡◌, ℕ, ◌∙◌, sym, List, Bool, Option, drop, length}
use Rattle.std.proofs.lemmas.List.{take_at}
use Rattle.topology.proofs.OrderFacts.{order_of}
use Rattle.topology.proofs.orders.order_or_cycle.Goals as goal

pub closed_walk-requires-clause-blocks : goal.closed_walk-requires-clause-blocks
closed_walk-requires-clause-blocks c =
    let taken : List Bool = c.take_nodes.new.taken in
    let blocks : List (Option ℕ) = c.take_nodes.new.blocks in
    let links_is : c.deref-in-Some.result.now ≡ c.deref.result.now = c.deref-in-Some.ensures.value ∙ sym c.deref.ensures.value in
    let taken_is : c.deref-in-Some-2.result.now ≡ taken =
    c.deref-in-Some-2.ensures.value ∙ take_at taken (drop (length taken) c.in_ok-taken.taken.items) c.in_ok-taken.taken.len (c.take_nodes.auto.taken ∙ c.deref_mut.ensures.len) in
    let blocks_is : c.deref-in-Some-3.result.now ≡ blocks =
    c.deref-in-Some-3.ensures.value ∙ take_at blocks (drop (length blocks) c.in_ok-blocks.blocks.items) c.in_ok-blocks.blocks.len (c.take_nodes.auto.blocks ∙ c.deref_mut-2.ensures.len) in
    rw (links_is, taken_is, blocks_is) c.in_ok-order.ensures.taken.noted

pub returns : goal.returns
returns c =
    let taken : List Bool = c.take_nodes.new.taken in
    let taken_is : c.deref-2.result.now ≡ taken =
    c.deref-2.ensures.value ∙ take_at taken (drop (length taken) c.in_ok-taken.taken.items) c.in_ok-taken.taken.len (c.take_nodes.auto.taken ∙ c.deref_mut.ensures.len) in
    order_of c.args.graph.now c.requires c.deref.result.now (rw c.deref.ensures.value c.in_ok-links.ensures) taken c.take_nodes.new.blocks c.in_ok-order.order c.in_ok-order.ensures.taken
    (rw taken_is at c.in-None.ensures)

use Rattle.std.proofs.Common.{◌≡◌, ℕ, ◌∙◌, List, ◌++◌, ◌∷◌, []}
use Rattle.topology.proofs.OrderFacts.{taken_next}
use Rattle.topology.proofs.orders.take_nodes.Goals as goal

pub loop-v-preserved : goal.loop-v-preserved
loop-v-preserved c =
    let os : List ℕ = c.loop-v.order in
    let x = c.in-Some.v in
    let pushed : c.push.new.self ≡ os ++ x ∷ [] = c.in_ok-push.ensures.ok in
    rw pushed (taken_next c.args.graph.now c.requires.named c.args.links.now c.requires.links c.loop-v.taken c.loop-v.blocks os c.loop-v.invariant
    c.deref.result.now (c.deref.ensures.value ∙ c.in_ok-uids.ensures) c.note_blocks-in-Some.new.blocks x c.note_blocks-in-Some.auto.blocks c.note_blocks-in-Some.ensures c.in-Some.ensures)

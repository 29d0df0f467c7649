use Rattle.std.proofs.Common.{rules, arith, ◌≡◌, ℕ, length, sym, ◌∙◌, subst, Some, None, List, drop, ◌++◌, ◌∷◌, []}
use Rattle.std.specs.Prelude.{reverse}
use Rattle.std.proofs.lemmas.List.{get_or_read, take_rest, length-set}
use Rattle.graph_model.specs.Checks.{IsClosedWalk}
use Rattle.topology.specs.Blocks.{block_of, Blocks}
use Rattle.topology.proofs.OrderFacts.{blocked_by}
use Rattle.topology.proofs.CycleFacts.{led_more, closes, placed_more, placed_at}
use Rattle.topology.proofs.cycles.closed_walk.Goals as goal

pub returns-in-Some : goal.returns-in-Some
returns-in-Some c =
    let ls = c.args.links.now in
    let walk : List ℕ = c.loop-p.walk.items in
    let v = c.loop-p.v in
    let p = c.in-Some.p in
    let inv = c.loop-p.invariant in
    let at : block_of c.loop-p.places.items v ≡ Some p = sym (get_or_read c.loop-p.places.items v c.index.result.now (omega (arith, inv.count)) c.index.ensures None) ∙ c.in-Some.is in
    let there = placed_at ls walk c.loop-p.places.items v p at (inv.placed v inv.node) in
    let made : c.in_ok-walk-in-Some.walk ≡ reverse (drop p walk) = rw (c.deref.ensures.value, take_rest walk p) at c.in_ok-walk-in-Some.ensures in
    λ g links. subst (IsClosedWalk g) (sym made) (closes g ls links walk v p there.0 there.1 inv.led)

pub loop-p-preserved : goal.loop-p-preserved
loop-p-preserved c =
    let ls = c.args.links.now in
    let walk : List ℕ = c.loop-p.walk.items in
    let v = c.loop-p.v in
    let e = c.in-Some-blocks.e in
    let inv = c.loop-p.invariant in
    let is : block_of c.args.blocks.now v ≡ Some e = search rules in
    let by : Blocks ls c.args.taken.now v e = blocked_by ls c.args.taken.now c.args.blocks.now v e c.requires.blocks (omega (arith, c.requires.nodes, inv.node)) is in
    let pushed : c.push.new.self.items ≡ walk ++ e ∷ [] = c.in_ok-push-in-Some-blocks.ensures.items in
    let at : c.len.result ≡ length walk = search rules in
    record {
      node = (c.requires.within e by.0).0;
      fresh = by.2;
      count = length-set c.loop-p.places.items c.loop-p.v (Some c.len.result) ∙ inv.count;
      led = rw pushed (led_more ls walk v e by.0 by.1 inv.led);
      placed = rw (pushed, at) (placed_more ls (length c.args.taken.now) c.loop-p.places.items walk v e inv.count inv.node by.1 inv.placed);
    }

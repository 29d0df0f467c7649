use Rattle.std.proofs.Common.{◌≡◌, ◌∙◌, ◌++◌, ◌-◌, ap, subst, map, length, IsPermutation, inl, refl, arith}
use Rattle.std.specs.List.{dedup, range_with_len}
use Rattle.std.specs.Ordering.{eq_by_cmp}
use Rattle.std.proofs.lemmas.List.{append_assoc}
use Rattle.std.proofs.lemmas.List.Filters.{dedup_is}
use Rattle.min_cost_flow.specs.declared.network.Arc.{Arc}
use Rattle.min_cost_flow.specs.contracts.network.ArcOrd.TheImpl.Laws.{total-law, matches_eq-law}
use Rattle.alignment.specs.Links.{arc_along, arc_from_root, arcs_to_root, links_of}
use Rattle.alignment.proofs.PlaceListFacts.{zero_first}
use Rattle.alignment.proofs.NetworkArcFacts.{arcs_are}
use Rattle.alignment.proofs.SortedArcLaws.{order}
use Rattle.alignment.proofs.network.arcs.Goals as goal

pub add_from_root-requires-clause-some : goal.add_from_root-requires-clause-some
add_from_root-requires-clause-some c = (zero_first c.args.points.now c.requires.points.rising (c.requires.points.all 0 (inl refl))).0

pub returns : goal.returns
returns c =
    let g = c.args.graph.now in
    let points = c.args.points.now in
    let along = map arc_along (links_of g points) in
    let from_root = map arc_from_root (range_with_len 1 (length points - 1)) in
    let made : c.add_to_root.new.arcs.items ≡ along ++ (from_root ++ arcs_to_root g points)
    = c.in_ok-add_to_root.ensures
    ∙ ap (λ xs. xs ++ arcs_to_root g points)
    (c.in_ok-add_from_root.ensures ∙ ap (λ xs. xs ++ from_root) (c.in_ok-add_links.ensures ∙ ap (λ xs. xs ++ map arc_along c.args.links.now) c.new-arcs.ensures.items ∙ ap (map arc_along) c.requires.links))
    ∙ append_assoc along from_root (arcs_to_root g points) in
    let same : (x y : Arc) → _ ≡ eq_by_cmp order x y = matches_eq-law in
    let kept = dedup_is _ _ _ c.dedup.ensures.filtered ∙ (λ i. dedup (λ x y. same x y i) c.sort_unstable.new.self.items) in
    arcs_are g points c.requires.sound c.requires.points total-law c.sort_unstable.new.self.items c.dedup.new.self.items
    (subst (λ xs. IsPermutation xs c.sort_unstable.new.self.items) made c.sort_unstable.ensures.permutation) c.sort_unstable.ensures.sorted kept
    (omega (arith, c.dedup.ensures.bound, c.dedup.new.self.ok.0, c.sort_unstable.new.self.ok.0))

use Rattle.std.proofs.Common.{◌≡◌, ◌∙◌, ◌++◌, ◌-◌, ap, subst, map, length, IsPermutation, inl, refl, arith}
use Rattle.std.specs.List.{dedup, range_with_len}
use Rattle.std.specs.Ordering.{eq_by_cmp}
use Rattle.std.proofs.lemmas.List.{append_assoc}
use Rattle.std.proofs.lemmas.List.Filters.{dedup_is}
use Rattle.graph_model.specs.Paths.{latency_of_graph}
use Rattle.min_cost_flow.specs.declared.network.Arc.{Arc}
use Rattle.min_cost_flow.specs.contracts.network.ArcOrd.TheImpl.Laws.{total-law, matches_eq-law}
use Rattle.plan_model.specs.Lives.{values}
use Rattle.alignment.specs.Links.{arc_along, arc_from_root, arcs_to_root, links_of}
use Rattle.alignment.specs.Mirrors.{arc_to_mirror, arc_from_mirror}
use Rattle.alignment.proofs.PlaceListFacts.{zero_first}
use Rattle.alignment.proofs.SharedArcFacts.{shared_arcs_are, made}
use Rattle.alignment.proofs.SortedArcLaws.{order}
use Rattle.alignment.proofs.ValueListFacts.{few_values, as_many}
use Rattle.alignment.proofs.shared_network.arcs.Goals as goal

pub add_from_root-requires-clause-some : goal.add_from_root-requires-clause-some
add_from_root-requires-clause-some c = (zero_first c.args.points.now c.requires.points.rising (c.requires.points.all 0 (inl refl))).0

pub add_from_mirrors-requires-clause-few : goal.add_from_mirrors-requires-clause-few
add_from_mirrors-requires-clause-few c =
    let few = few_values c.args.graph.now c.requires.sound in
    let many = as_many c.args.graph.now c.args.values.now c.requires.values in
    omega (arith, c.requires.points.few)

pub returns : goal.returns
returns c =
    let g = c.args.graph.now in
    let points = c.args.points.now in
    let along = map arc_along (links_of g points) in
    let to_mirrors = map (arc_to_mirror g points) (links_of g points) in
    let from_root = map arc_from_root (range_with_len 1 (length points - 1)) in
    let to_root = arcs_to_root g points in
    let from_mirrors = map (arc_from_mirror (latency_of_graph g)) (range_with_len (length points) (length (values g))) in
    let count = as_many g c.args.values.now c.requires.values in
    let first : c.add_links.new.arcs.items ≡ along
    = c.in_ok-add_links.ensures ∙ ap (λ xs. xs ++ map arc_along c.args.links.now) c.new-arcs.ensures.items ∙ ap (map arc_along) c.requires.links in
    let second : c.add_to_mirrors.new.arcs.items ≡ along ++ to_mirrors = c.in_ok-add_to_mirrors.ensures ∙ (λ i. first i ++ map (arc_to_mirror g points) (c.requires.links i)) in
    let third : c.add_from_root.new.arcs.items ≡ (along ++ to_mirrors) ++ from_root = c.in_ok-add_from_root.ensures ∙ ap (λ xs. xs ++ from_root) second in
    let fourth : c.add_to_root.new.arcs.items ≡ ((along ++ to_mirrors) ++ from_root) ++ to_root = c.in_ok-add_to_root.ensures ∙ ap (λ xs. xs ++ to_root) third in
    let fifth : c.add_from_mirrors.new.arcs.items ≡ (((along ++ to_mirrors) ++ from_root) ++ to_root) ++ from_mirrors
    = c.in_ok-add_from_mirrors.ensures ∙ (λ i. fourth i ++ map (arc_from_mirror (c.latency.ensures.latency i)) (range_with_len (length points) (count i))) in
    let all : c.add_from_mirrors.new.arcs.items ≡ made g points c.requires.sound c.requires.points = fifth ∙ simp append_assoc in
    let same : (x y : Arc) → _ ≡ eq_by_cmp order x y = matches_eq-law in
    let kept = dedup_is _ _ _ c.dedup.ensures.filtered ∙ (λ i. dedup (λ x y. same x y i) c.sort_unstable.new.self.items) in
    shared_arcs_are g points c.requires.sound c.requires.points total-law c.sort_unstable.new.self.items c.dedup.new.self.items
    (subst (λ xs. IsPermutation xs c.sort_unstable.new.self.items) all c.sort_unstable.ensures.permutation) c.sort_unstable.ensures.sorted kept
    (omega (arith, c.dedup.ensures.bound, c.dedup.new.self.ok.0, c.sort_unstable.new.self.ok.0))

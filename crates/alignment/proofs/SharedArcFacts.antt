-- The arcs that are made for the network of shared lines are its differences by the numbers of its points.
use Rattle.std.proofs.Common.{◌≡◌, ℕ, ◌+◌, ◌-◌, ◌<◌, ◌≤◌, ◌^◌, pos, neg_ℤ, List, [], ◌∷◌, ◌++◌, length, map, drop, get_or, slice_index, refl, sym, ap, subst, ◌∙◌, arith, cond, Bool, true, false, inl, inr, IsPermutation}
use Rattle.std.specs.List.{AllByRecursion, Contains, dedup, range_with_len}
use Rattle.std.specs.List.Sorted.{IsSorted}
use Rattle.std.specs.Ordering.{eq_by_cmp}
use Rattle.std.specs.Cmp.{IsTotalOrder}
use Rattle.std.proofs.lemmas.List.{ext_get_or, get_or-map, get_or_append_left, get_or-append-add, length-append, length-map, map-append}
use Rattle.std.proofs.lemmas.Simd.{map-map}
use Rattle.std.proofs.lemmas.List.Elements.{All-contains, All-from_recursion, Contains-get_or}
use Rattle.std.proofs.lemmas.List.FromFn.{get_or-map-range_with_len, length-map-range_with_len}
use Rattle.std.proofs.lemmas.List.Sorted.{length_permutation}
use Rattle.graph_model.specs.Graphs.{input_name, output_name}
use Rattle.graph_model.specs.Paths.{IsLive, is_live, live_nodes, live_connections, latency_of_graph}
use Rattle.graph_model.specs.Sound.{IsSound}
use Rattle.graph_model.specs.declared.graph.Graph.{Graph}
use Rattle.graph_model.proofs.LiveLaws.{ends_live, live_by, output_live}
use Rattle.graph_model.proofs.ReachLaws.{filter_from}
use Rattle.topology.proofs.LinkFacts.{connection_at}
use Rattle.min_cost_flow.specs.declared.network.Arc.{Arc}
use Rattle.plan_model.specs.Flows.{along, from_root, to_root, terms}
use Rattle.plan_model.specs.Networks.{Difference}
use Rattle.plan_model.specs.Lives.{Port, source, values}
use Rattle.plan_model.specs.SharedFlows.{at_node, mirror, shared_terms, along_nodes, to_mirror, root_to, ends_to_root, mirror_to_root, shared_network}
use Rattle.plan_model.specs.declared.shared.Point.{Point}
use Rattle.plan_model.proofs.NetworkLaws.{all_append, all_map, all_weaker}
use Rattle.plan_model.proofs.SharedLaws.{told_point, itself_point, every, value_of}
use Rattle.alignment.specs.Links.{links_of, arc_along, arc_from_root, arcs_to_root}
use Rattle.alignment.specs.Mirrors.{mirror_number, arc_to_mirror, arc_from_mirror}
use Rattle.alignment.specs.Networks.{ArePoints, number_in}
use Rattle.alignment.specs.Numbered.{name_by, number_by, numbered_by, AreArcsBy}
use Rattle.alignment.specs.SharedNetworks.{shared_points, AreSharedArcs}
use Rattle.alignment.specs.Values.{place_of_value}
use Rattle.alignment.proofs.LinkFacts.{all_links_map, live_link}
use Rattle.alignment.proofs.NetworkArcFacts as nodes
use Rattle.alignment.proofs.NumberedLaws as numbered
use Rattle.alignment.proofs.PlaceListFacts.{stands_at, links_few}
use Rattle.alignment.proofs.SharedPointFacts.{are_names, node_named, mirror_named, shared_arc_found}
use Rattle.alignment.proofs.ValueListFacts.{few_values, place_at, at_place}
use Rattle.alignment.proofs.SortedArcLaws.{order, HasEnds, third, mapped, map_same_at, numbered_are, sorted_are, sorted_rise}

module _ (g : Graph) (points : List ℕ) (sound : IsSound g) (are : ArePoints g points) where
  abbrev names : List Point
  names = shared_points g points

  abbrev number : Point → ℕ
  number x = number_by (shared_terms g) names x

  abbrev num : Difference Point → Arc
  num d = numbered_by (shared_terms g) names d

  abbrev latency : ℕ
  latency = latency_of_graph g

  -- ---- numbers
  pub names_count : length names ≡ length points + length (values g)
  names_count = let both = length-append (map at_node points) (map mirror (values g)) in let a = length-map points at_node in let b = length-map (values g) mirror in omega arith

  -- a node has the same number among the points of either network
  pub node_at : (k : ℕ) → k < length points → name_by (at_node 0) names k ≡ at_node (slice_index points k)
  node_at k lt =
      let few : k < length (map at_node points) = omega (arith, length-map points at_node) in
      get_or_append_left (map at_node points) (map mirror (values g)) (at_node 0) k few ∙ get_or-map at_node points k 0 (at_node 0) lt

  pub place_is : (k : ℕ) → k < length points → number (at_node (slice_index points k)) ≡ k
  place_is k lt =
      let more : k < length names = let n = names_count in omega arith in
      ap number (sym (node_at k lt)) ∙ numbered.number_at (shared_terms g) told_point itself_point (at_node 0) names (are_names g points are) k more

  pub node_number : (v : ℕ) → Contains points v → number (at_node v) ≡ number_in points v
  node_number v has = let p = stands_at g points v has in ap (λ u. number (at_node u)) (sym p.1) ∙ place_is (number_in points v) p.0

  pub live_number : (v : ℕ) → IsLive g v → number (at_node v) ≡ number_in points v
  live_number v live = node_number v (are.all v (inr live))

  pub root_number : number (at_node 0) ≡ 0
  root_number = node_number 0 (are.all 0 (inl refl)) ∙ nodes.root_number g points sound are

  -- a mirror stands after the nodes, at the place of its value
  pub mirror_at : (k : ℕ) (x : Port) → k < length (values g) → name_by (at_node 0) names (length points + k) ≡ mirror (get_or (values g) k x)
  mirror_at k x lt =
      let nodes = length-map points at_node in
      ap (λ n. name_by (at_node 0) names (n + k)) (sym nodes)
      ∙ get_or-append-add (map at_node points) (map mirror (values g)) k (at_node 0)
      ∙ get_or-map mirror (values g) k x (at_node 0) lt

  pub mirror_is : (x : Port) → Contains (values g) x → number (mirror x) ≡ mirror_number g points x
  mirror_is x has =
      let p = at_place g x has in
      let k = place_of_value g x in
      let more : length points + k < length names = let n = names_count in let l = p.0 in omega arith in
      ap number (ap mirror (sym p.1) ∙ sym (mirror_at k x p.0)) ∙ numbered.number_at (shared_terms g) told_point itself_point (at_node 0) names (are_names g points are) (length points + k) more

  -- ---- each piece of the arcs
  -- a difference between nodes, as one of this network
  abbrev at_nodes : Difference ℕ → Difference Point
  at_nodes d = record { tail = at_node d.tail; head = at_node d.head; least = d.least }

  -- the arcs between nodes are those of the other network
  same_arcs : (ds : List (Difference ℕ)) → AllByRecursion (nodes.HasBoth g points sound are) ds → map (numbered_by (terms g) points) ds ≡ map num (map at_nodes ds)
  same_arcs ds ends =
      map_same_at (numbered_by (terms g) points) (λ d. num (at_nodes d)) ds
      (all_weaker (nodes.HasBoth g points sound are) (λ d. numbered_by (terms g) points d ≡ num (at_nodes d)) ds
      (λ d e. let u = sym (node_number d.tail e.0) in let v = sym (node_number d.head e.1) in λ i. record { tail = u i; head = v i; least = d.least }) ends)
      ∙ sym (map-map num at_nodes ds)

  along_are : map arc_along (links_of g points) ≡ map num (map (along_nodes g) (live_connections g))
  along_are =
      nodes.along_are g points sound are ∙ same_arcs (map (along g) (live_connections g)) (nodes.along_ends g points sound are)
      ∙ ap (map num) (map-map at_nodes (along g) (live_connections g))

  from_root_are : map arc_from_root (range_with_len 1 (length points - 1)) ≡ map num (map root_to (drop 1 points))
  from_root_are =
      nodes.from_root_are g points sound are ∙ same_arcs (map from_root (drop 1 points)) (nodes.from_root_ends g points sound are)
      ∙ ap (map num) (map-map at_nodes from_root (drop 1 points))

  to_root_are : arcs_to_root g points ≡ map num (ends_to_root g latency)
  to_root_are = nodes.to_root_are g points sound are ∙ same_arcs (to_root g latency) (nodes.to_root_ends g points sound are) ∙ ap (map num) (go (is_live g (input_name g)))
    where
      go : (b : Bool)
          → map at_nodes (cond b (record { tail = input_name g; head = 0; least = pos 0 } ∷ []) [] ++ record { tail = output_name g; head = 0; least = neg_ℤ (pos latency) } ∷ [])
          ≡ cond b (record { tail = at_node (input_name g); head = at_node 0; least = pos 0 } ∷ []) [] ++ record { tail = at_node (output_name g); head = at_node 0; least = neg_ℤ (pos latency) } ∷ []
      go true = refl
      go false = refl

  to_mirrors_are : map (arc_to_mirror g points) (links_of g points) ≡ map num (map to_mirror (live_connections g))
  to_mirrors_are =
      all_links_map (arc_to_mirror g points) (λ c. num (to_mirror c)) g points (λ j has live.
      let c = connection_at g j in
      let here = live_link g j has live in
      let u = sym (live_number c.dst.0 (ends_live g sound c here).1) in
      let v = sym (mirror_is (source c) (value_of g sound c here)) in
      λ i. record { tail = u i; head = v i; least = pos 0 })
      ∙ sym (map-map num to_mirror (live_connections g))

  from_mirrors_are : map (arc_from_mirror latency) (range_with_len (length points) (length (values g))) ≡ map num (map (mirror_to_root latency) (values g))
  from_mirrors_are =
      let none : Arc = record { tail = 0; head = 0; least = pos 0 } in
      let some : Port = record { uid = record { 0 = 0 }; channel = 0 } in
      let count = length-map-range_with_len (arc_from_mirror latency) (length points) (length (values g)) in
      let others = length-map (values g) (λ x. num (mirror_to_root latency x)) in
      ext_get_or none (map (arc_from_mirror latency) (range_with_len (length points) (length (values g)))) (map (λ x. num (mirror_to_root latency x)) (values g)) (omega arith)
      (λ k lt.
      let below : k < length (values g) = omega arith in
      get_or-map-range_with_len (arc_from_mirror latency) (length points) (length (values g)) k (length points + k) none below refl
      ∙ from_mirror_is k some below
      ∙ sym (get_or-map (λ x. num (mirror_to_root latency x)) (values g) k some none below))
      ∙ sym (map-map num (mirror_to_root latency) (values g))
    where
      from_mirror_is : (k : ℕ) (d : Port) → k < length (values g) → arc_from_mirror latency (length points + k) ≡ num (mirror_to_root latency (get_or (values g) k d))
      from_mirror_is k d lt =
          let u = sym (mirror_is (get_or (values g) k d) (Contains-get_or (values g) k d lt) ∙ ap (λ n. length points + n) (place_at g k d lt)) in
          let z = sym root_number in
          λ i. record { tail = u i; head = z i; least = neg_ℤ (pos latency) }

  -- ---- all of them
  abbrev pub made : List Arc
  made = map arc_along (links_of g points) ++ (map (arc_to_mirror g points) (links_of g points) ++ (map arc_from_root (range_with_len 1 (length points - 1))
      ++ (arcs_to_root g points ++ map (arc_from_mirror latency) (range_with_len (length points) (length (values g))))))

  -- the network's differences, those from the root in the order of the points
  abbrev last_two : List (Difference Point)
  last_two = ends_to_root g latency ++ map (mirror_to_root latency) (values g)

  abbrev told : List (Difference Point)
  told = map (along_nodes g) (live_connections g) ++ (map to_mirror (live_connections g) ++ (map root_to (drop 1 points) ++ last_two))

  made_are : made ≡ map num told
  made_are =
      (λ i. along_are i ++ (to_mirrors_are i ++ (from_root_are i ++ (to_root_are i ++ from_mirrors_are i))))
      ∙ ap (λ xs. map num (map (along_nodes g) (live_connections g)) ++ (map num (map to_mirror (live_connections g)) ++ (map num (map root_to (drop 1 points)) ++ xs)))
      (sym (map-append num (ends_to_root g latency) (map (mirror_to_root latency) (values g))))
      ∙ ap (λ xs. map num (map (along_nodes g) (live_connections g)) ++ (map num (map to_mirror (live_connections g)) ++ xs)) (sym (map-append num (map root_to (drop 1 points)) last_two))
      ∙ ap (λ xs. map num (map (along_nodes g) (live_connections g)) ++ xs) (sym (map-append num (map to_mirror (live_connections g)) (map root_to (drop 1 points) ++ last_two)))
      ∙ sym (map-append num (map (along_nodes g) (live_connections g)) (map to_mirror (live_connections g) ++ (map root_to (drop 1 points) ++ last_two)))

  network_has : (d : Difference Point) → Contains told d → Contains (shared_network g latency) d
  network_has d has = third (map (along_nodes g) (live_connections g)) (map to_mirror (live_connections g)) (map root_to (drop 1 points)) (map root_to (live_nodes g)) last_two d (λ h. mapped root_to (drop 1 points) (live_nodes g) (nodes.live_later g points sound are) d h) has

  told_has : (d : Difference Point) → Contains (shared_network g latency) d → Contains told d
  told_has d has = third (map (along_nodes g) (live_connections g)) (map to_mirror (live_connections g)) (map root_to (live_nodes g)) (map root_to (drop 1 points)) last_two d (λ h. mapped root_to (live_nodes g) (drop 1 points) (nodes.later_live g points sound are) d h) has

  -- each has both ends among the names
  abbrev HasBoth : Difference Point → Type 0
  HasBoth d = HasEnds (shared_terms g) told_point itself_point (at_node 0) names (shared_network g latency) d

  node_there : (v : ℕ) → IsLive g v → Contains names (at_node v)
  node_there v live = node_named g points are v (are.all v (inr live))

  root_there : Contains names (at_node 0)
  root_there = node_named g points are 0 (are.all 0 (inl refl))

  ends_there : AllByRecursion HasBoth (shared_network g latency)
  ends_there =
      all_append HasBoth (map (along_nodes g) (live_connections g)) _
      (all_map HasBoth (along_nodes g) (live_connections g) (every _ (live_connections g) (λ c has. let e = ends_live g sound c has in (node_there c.src.0 e.0, node_there c.dst.0 e.1))))
      (all_append HasBoth (map to_mirror (live_connections g)) _
      (all_map HasBoth to_mirror (live_connections g) (every _ (live_connections g) (λ c has. (node_there c.dst.0 (ends_live g sound c has).1, mirror_named g points are (source c) (value_of g sound c has)))))
      (all_append HasBoth (map root_to (live_nodes g)) _
      (all_map HasBoth root_to (live_nodes g) (every _ (live_nodes g) (λ v has. (root_there, node_there v (live_by g sound v (filter_from (is_live g) (map (λ n. n.uid.0) g.nodes) v has).1)))))
      (all_append HasBoth (ends_to_root g latency) _ (go (is_live g (input_name g)) refl)
      (all_map HasBoth (mirror_to_root latency) (values g) (every _ (values g) (λ x has. (mirror_named g points are x has, root_there)))))))
    where
      go : (b : Bool) → is_live g (input_name g) ≡ b → AllByRecursion HasBoth
          (cond b (record { tail = at_node (input_name g); head = at_node 0; least = pos 0 } ∷ []) [] ++ record { tail = at_node (output_name g); head = at_node 0; least = neg_ℤ (pos latency) } ∷ [])
      go true e = ((node_there (input_name g) (live_by g sound (input_name g) e), root_there), ((node_there (output_name g) (output_live g sound), root_there), tt))
      go false e = ((node_there (output_name g) (output_live g sound), root_there), tt)

  made_are_arcs : AreArcsBy (shared_terms g) (at_node 0) names (shared_network g latency) made
  made_are_arcs =
      let ends = All-from_recursion HasBoth (shared_network g latency) ends_there in
      subst (AreArcsBy (shared_terms g) (at_node 0) names (shared_network g latency)) (sym made_are)
      (numbered_are (shared_terms g) told_point itself_point (at_node 0) names (shared_network g latency) told
      (λ k d l. All-contains HasBoth (shared_network g latency) (get_or told k d) ends (network_has (get_or told k d) (Contains-get_or told k d l)))
      (λ k d l. network_has (get_or told k d) (Contains-get_or told k d l))
      (λ k d l. told_has (get_or (shared_network g latency) k d) (Contains-get_or (shared_network g latency) k d l)))

  -- ---- sorted, and each once
  few_made : length made ≤ 2 ^ 16
  few_made =
      let links = links_few g points 0 g.connections in
      let along = length-map (links_of g points) arc_along in
      let mirrors = length-map (links_of g points) (arc_to_mirror g points) in
      let root = length-map-range_with_len arc_from_root 1 (length points - 1) in
      let ends = nodes.to_root_few g points sound are in
      let back = length-map-range_with_len (arc_from_mirror latency) (length points) (length (values g)) in
      let a = length-append (map arc_along (links_of g points)) (map (arc_to_mirror g points) (links_of g points) ++ (map arc_from_root (range_with_len 1 (length points - 1)) ++ (arcs_to_root g points ++ map (arc_from_mirror latency) (range_with_len (length points) (length (values g)))))) in
      let b = length-append (map (arc_to_mirror g points) (links_of g points)) (map arc_from_root (range_with_len 1 (length points - 1)) ++ (arcs_to_root g points ++ map (arc_from_mirror latency) (range_with_len (length points) (length (values g))))) in
      let c = length-append (map arc_from_root (range_with_len 1 (length points - 1))) (arcs_to_root g points ++ map (arc_from_mirror latency) (range_with_len (length points) (length (values g)))) in
      let d = length-append (arcs_to_root g points) (map (arc_from_mirror latency) (range_with_len (length points) (length (values g)))) in
      let values_few = few_values g sound in
      omega (arith, sound.fits.1, are.few)

  pub shared_arcs_are : IsTotalOrder order → (sorted arcs : List Arc) → IsPermutation made sorted → IsSorted order sorted → arcs ≡ dedup (eq_by_cmp order) sorted → length arcs ≤ length sorted → AreSharedArcs g points arcs
  shared_arcs_are total sorted arcs moved up is fewer = record {
    are = sorted_are (shared_terms g) told_point itself_point (at_node 0) names (shared_network g latency) made sorted arcs made_are_arcs total moved up is;
    rising = sorted_rise (shared_terms g) told_point itself_point (at_node 0) names (shared_network g latency) made sorted arcs made_are_arcs total moved up is (shared_arc_found g sound);
    few = omega (arith, length_permutation made sorted moved, few_made, fewer);
  }

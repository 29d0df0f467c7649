-- The arcs that are made for a graph's network are its differences by the numbers of its points.
use Rattle.std.proofs.Common.{◌≡◌, ℕ, ◌+◌, ◌-◌, ◌<◌, ◌≤◌, ◌^◌, ℤ, pos, neg_ℤ, List, [], ◌∷◌, ◌++◌, length, map, drop, get_or, slice_index, refl, sym, ap, subst, ◌∙◌, arith, cond, Bool, true, false, inl, inr, IsPermutation}
use Rattle.std.specs.List.{AllByRecursion, Contains, dedup, range_with_len}
use Rattle.std.specs.List.Sorted.{IsSorted}
use Rattle.std.specs.Ordering.{eq_by_cmp}
use Rattle.std.specs.Cmp.{IsTotalOrder}
use Rattle.std.proofs.lemmas.Bool.{eqb-true}
use Rattle.std.proofs.lemmas.Grind.{get_or_after_one}
use Rattle.std.proofs.lemmas.List.{ext_get_or, get_or-map, length-append, length-drop, length-map, map-append}
use Rattle.std.proofs.lemmas.List.Elements.{All-from_recursion, Contains-get_or}
use Rattle.std.proofs.lemmas.List.FromFn.{get_or-map-range_with_len, length-map-range_with_len}
use Rattle.std.proofs.lemmas.List.Sorted.{length_permutation}
use Rattle.std.proofs.lemmas.Simd.{map-map}
use Rattle.graph_model.specs.Graphs.{input_name, output_name}
use Rattle.graph_model.specs.Paths.{is_live, live_nodes, live_connections, latency_of_graph}
use Rattle.graph_model.specs.Sound.{IsSound}
use Rattle.graph_model.specs.declared.graph.Graph.{Graph}
use Rattle.graph_model.proofs.LiveLaws.{ends_live, live_by, output_live}
use Rattle.graph_model.proofs.PathLaws.{same_name}
use Rattle.graph_model.proofs.ReachLaws.{filter_from}
use Rattle.min_cost_flow.specs.declared.network.Arc.{Arc}
use Rattle.plan_model.specs.Flows.{along, from_root, to_root, network, terms}
use Rattle.plan_model.specs.Networks.{Difference}
use Rattle.plan_model.proofs.NetworkLaws.{all_append, all_map}
use Rattle.plan_model.proofs.SharedLaws.{every}
use Rattle.alignment.specs.Links.{links_of, arc_along, arc_from_root, arcs_to_root}
use Rattle.alignment.specs.Networks.{ArePoints, AreNetworkArcs, number_in}
use Rattle.alignment.specs.Numbered.{numbered_by, AreArcsBy}
use Rattle.alignment.proofs.ArcFacts.{arc_found}
use Rattle.alignment.proofs.LinkFacts.{all_links_map}
use Rattle.alignment.proofs.PlaceListFacts.{number_at, zero_first, links_few}
use Rattle.alignment.proofs.PointFacts.{later_is_live, live_is_later}
use Rattle.alignment.proofs.SortedArcLaws.{order, third, mapped, numbered_are, sorted_are, sorted_rise}
use Rattle.alignment.proofs.ValueFacts.{live_listed}

module _ (g : Graph) (points : List ℕ) (sound : IsSound g) (are : ArePoints g points) where
  abbrev latency : ℕ
  latency = latency_of_graph g

  abbrev num : Difference ℕ → Arc
  num d = numbered_by (terms g) points d

  pub root_number : number_in points 0 ≡ 0
  root_number = let first = zero_first points are.rising (are.all 0 (inl refl)) in ap (number_in points) (sym first.1) ∙ number_at g points are 0 first.0

  -- ---- each piece of the arcs
  pub along_are : map arc_along (links_of g points) ≡ map num (map (along g) (live_connections g))
  along_are = all_links_map arc_along (λ c. num (along g c)) g points (λ j has live. refl) ∙ sym (map-map num (along g) (live_connections g))

  pub from_root_are : map arc_from_root (range_with_len 1 (length points - 1)) ≡ map num (map from_root (drop 1 points))
  from_root_are =
      let none : Arc = record { tail = 0; head = 0; least = pos 0 } in
      let count = length-map-range_with_len arc_from_root 1 (length points - 1) in
      let others = length-map (drop 1 points) (λ v. num (from_root v)) in
      let fewer = length-drop 1 points in
      ext_get_or none (map arc_from_root (range_with_len 1 (length points - 1))) (map (λ v. num (from_root v)) (drop 1 points)) (omega arith)
      (λ k lt.
      let below : k < length points - 1 = omega arith in
      let there : k < length (drop 1 points) = omega arith in
      get_or-map-range_with_len arc_from_root 1 (length points - 1) k (1 + k) none below refl
      ∙ from_root_is (1 + k) (omega arith)
      ∙ ap (λ v. num (from_root v)) (sym (get_or_after_one points k 0))
      ∙ sym (get_or-map (λ v. num (from_root v)) (drop 1 points) k 0 none there))
      ∙ sym (map-map num from_root (drop 1 points))
    where
      from_root_is : (k : ℕ) → k < length points → arc_from_root k ≡ num (from_root (slice_index points k))
      from_root_is k lt = let u = sym root_number in let v = sym (number_at g points are k lt) in λ i. record { tail = u i; head = v i; least = pos 0 }

  pub to_root_are : arcs_to_root g points ≡ map num (to_root g latency)
  to_root_are = go (is_live g (input_name g))
    where
      end : (v : ℕ) (l : ℤ) → record { tail = number_in points v; head = 0; least = l } ≡ num (record { tail = v; head = 0; least = l })
      end v l = let z = sym root_number in λ i. record { tail = number_in points v; head = z i; least = l }

      go : (b : Bool)
          → cond b (record { tail = number_in points (input_name g); head = 0; least = pos 0 } ∷ []) [] ++ record { tail = number_in points (output_name g); head = 0; least = neg_ℤ (pos latency) } ∷ []
          ≡ map num (cond b (record { tail = input_name g; head = 0; least = pos 0 } ∷ []) [] ++ record { tail = output_name g; head = 0; least = neg_ℤ (pos latency) } ∷ [])
      go true = λ i. end (input_name g) (pos 0) i ∷ end (output_name g) (neg_ℤ (pos latency)) i ∷ []
      go false = λ i. end (output_name g) (neg_ℤ (pos latency)) i ∷ []

  -- ---- both ends are points
  abbrev pub HasBoth : Difference ℕ → Type 0
  HasBoth d = Contains points d.tail × Contains points d.head

  root_there : Contains points 0
  root_there = are.all 0 (inl refl)

  pub along_ends : AllByRecursion HasBoth (map (along g) (live_connections g))
  along_ends = all_map HasBoth (along g) (live_connections g)
      (every _ (live_connections g) (λ c has. let e = ends_live g sound c has in (are.all c.src.0 (inr e.0), are.all c.dst.0 (inr e.1))))

  pub from_root_ends : AllByRecursion HasBoth (map from_root (drop 1 points))
  from_root_ends = all_map HasBoth from_root (drop 1 points) (every _ (drop 1 points) (λ v has. (root_there, are.all v (inr (later_is_live g points sound are v has)))))

  pub to_root_ends : AllByRecursion HasBoth (to_root g latency)
  to_root_ends = go (is_live g (input_name g)) refl
    where
      last : Contains points (output_name g)
      last = are.all (output_name g) (inr (output_live g sound))

      go : (b : Bool) → is_live g (input_name g) ≡ b → AllByRecursion HasBoth
          (cond b (record { tail = input_name g; head = 0; least = pos 0 } ∷ []) [] ++ record { tail = output_name g; head = 0; least = neg_ℤ (pos latency) } ∷ [])
      go true e = ((are.all (input_name g) (inr (live_by g sound (input_name g) e)), root_there), ((last, root_there), tt))
      go false e = ((last, root_there), tt)

  -- ---- all of them
  abbrev pub made : List Arc
  made = map arc_along (links_of g points) ++ (map arc_from_root (range_with_len 1 (length points - 1)) ++ arcs_to_root g points)

  -- the network's differences, those from the root in the order of the points
  abbrev told : List (Difference ℕ)
  told = map (along g) (live_connections g) ++ (map from_root (drop 1 points) ++ to_root g latency)

  made_are : made ≡ map num told
  made_are =
      (λ i. along_are i ++ (from_root_are i ++ to_root_are i))
      ∙ ap (λ xs. map num (map (along g) (live_connections g)) ++ xs) (sym (map-append num (map from_root (drop 1 points)) (to_root g latency)))
      ∙ sym (map-append num (map (along g) (live_connections g)) (map from_root (drop 1 points) ++ to_root g latency))

  -- a live node is listed, and stands beyond the root; and the other way round
  pub later_live : (v : ℕ) → Contains (live_nodes g) v → Contains (drop 1 points) v
  later_live v has = live_is_later g points sound are v (live_by g sound v (filter_from (is_live g) (map (λ n. n.uid.0) g.nodes) v has).1)

  pub live_later : (v : ℕ) → Contains (drop 1 points) v → Contains (live_nodes g) v
  live_later v has = live_listed g sound v (later_is_live g points sound are v has)

  network_has : (d : Difference ℕ) → Contains told d → Contains (network g latency) d
  network_has d has = third [] (map (along g) (live_connections g)) (map from_root (drop 1 points)) (map from_root (live_nodes g)) (to_root g latency) d (λ h. mapped from_root (drop 1 points) (live_nodes g) live_later d h) has

  told_has : (d : Difference ℕ) → Contains (network g latency) d → Contains told d
  told_has d has = third [] (map (along g) (live_connections g)) (map from_root (live_nodes g)) (map from_root (drop 1 points)) (to_root g latency) d (λ h. mapped from_root (live_nodes g) (drop 1 points) later_live d h) has

  made_are_arcs : AreArcsBy (terms g) 0 points (network g latency) made
  made_are_arcs =
      subst (AreArcsBy (terms g) 0 points (network g latency)) (sym made_are)
      (numbered_are (terms g) eqb-true same_name 0 points (network g latency) told
      (All-from_recursion HasBoth told (all_append HasBoth (map (along g) (live_connections g)) _ along_ends (all_append HasBoth (map from_root (drop 1 points)) _ from_root_ends to_root_ends)))
      (λ k d l. network_has (get_or told k d) (Contains-get_or told k d l))
      (λ k d l. told_has (get_or (network g latency) k d) (Contains-get_or (network g latency) k d l)))

  -- ---- sorted, and each once
  pub to_root_few : length (arcs_to_root g points) ≤ 2
  to_root_few = go (is_live g (input_name g))
    where
      go : (b : Bool) → length {A = Arc} (cond b (record { tail = number_in points (input_name g); head = 0; least = pos 0 } ∷ []) []
          ++ record { tail = number_in points (output_name g); head = 0; least = neg_ℤ (pos (latency_of_graph g)) } ∷ []) ≤ 2
      go true = omega arith
      go false = omega arith

  few_made : length made ≤ 2 ^ 14
  few_made =
      let links = links_few g points 0 g.connections in
      let root = length-map-range_with_len arc_from_root 1 (length points - 1) in
      let ends = to_root_few in
      let first = length-append (map arc_along (links_of g points)) (map arc_from_root (range_with_len 1 (length points - 1)) ++ arcs_to_root g points) in
      let second = length-append (map arc_from_root (range_with_len 1 (length points - 1))) (arcs_to_root g points) in
      omega (arith, links, root, ends, first, second, length-map (links_of g points) arc_along, sound.fits.1, are.few)

  pub arcs_are : IsTotalOrder order → (sorted arcs : List Arc) → IsPermutation made sorted → IsSorted order sorted → arcs ≡ dedup (eq_by_cmp order) sorted → length arcs ≤ length sorted
      → AreNetworkArcs g points arcs
  arcs_are total sorted arcs moved up is fewer = record {
    are = sorted_are (terms g) eqb-true same_name 0 points (network g latency) made sorted arcs made_are_arcs total moved up is;
    rising = sorted_rise (terms g) eqb-true same_name 0 points (network g latency) made sorted arcs made_are_arcs total moved up is (arc_found g sound);
    few = omega (arith, length_permutation made sorted moved, few_made, fewer);
  }

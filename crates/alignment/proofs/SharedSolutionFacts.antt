-- A flow and least potentials of the network of shared lines give the best alignment, its lines, and the bound of its
-- total.
use Rattle.std.proofs.Common.{◌≡◌, ℕ, ◌+◌, ◌<◌, ℤ, pos, ◌-ℤ◌, ◌≤ℤ◌, List, ◌++◌, length, map, get_or, refl, sym, ap, subst, ◌∙◌, arith, Option, Some, None, ◌⊎◌, inl, inr}
use Rattle.std.specs.Prelude.{sum_by, IsSome}
use Rattle.std.specs.List.{All, Contains}
use Rattle.std.proofs.lemmas.Int.{ints}
use Rattle.std.proofs.lemmas.List.Elements.{All-contains, All-weaker, Contains-get_or}
use Rattle.graph_model.specs.Graphs.{latency_at}
use Rattle.graph_model.specs.Paths.{IsLive, live_nodes, live_connections, latency_of_graph}
use Rattle.graph_model.specs.declared.graph.Graph.{Graph}
use Rattle.min_cost_flow.specs.Flow.{MeetsNeeds}
use Rattle.min_cost_flow.specs.Laws.{weighted}
use Rattle.min_cost_flow.specs.declared.network.Arc.{Arc}
use Rattle.min_cost_flow.specs.declared.network.Network.{Network}
use Rattle.min_cost_flow.specs.declared.network.Solved.{Solved}
use Rattle.plan_model.specs.Networks.{Difference}
use Rattle.plan_model.specs.Lives.{Port, values}
use Rattle.plan_model.specs.Flows.{IsPoint}
use Rattle.plan_model.specs.Pairs.{ComesBefore}
use Rattle.plan_model.specs.SharedCertified.{ArePointArcs}
use Rattle.plan_model.specs.SharedDuality.{ArePotentials, IsSharedTight}
use Rattle.plan_model.specs.SharedFlows.{at_node, mirror, shared_terms, shared_network, shared_arc, shared_bound, need_by, to_mirror, root_to, along_nodes, ends_to_root, mirror_to_root, IsPointOf, IsSharedFlow, IsPointBefore, IsBeforePointArc}
use Rattle.plan_model.specs.SharedLines.{IsBestShared, line_length, shared_total}
use Rattle.plan_model.specs.declared.shared.Point.{Point}
use Rattle.plan_model.specs.declared.shared.PointUnits.{PointUnits}
use Rattle.plan_model.proofs.SavedLaws.{Contains-from_map, Contains-map}
use Rattle.plan_model.proofs.SharedBestLaws.{shared_least_of_optima}
use Rattle.plan_model.proofs.SharedLaws.{told_point, itself_point, reader}
use Rattle.shortest_paths.specs.Walks.{number_of, from_zero}
use Rattle.alignment.specs.SharedNetworks.{shared_points, point_entry, IsSharedNetworkOf}
use Rattle.alignment.specs.Numbered.{name_by, number_by, entries_by, AreNames}
use Rattle.alignment.proofs.NumberedLaws as numbered
use Rattle.alignment.proofs.SolutionFacts.{IsSolutionOf}
use Rattle.alignment.proofs.SharedPointFacts.{shared_arc_found, in_order, are_names, node_named, mirror_named}
use Rattle.graph_model.proofs.LiveLaws.{ends_live}
use Rattle.alignment.proofs.ValueFacts.{live_listed}
use Rattle.std.proofs.lemmas.List.Elements.{Contains-append_left, Contains-append_right, Contains-append_cases}

pub point_made : (u v : Point) (n : ℕ) → ((point_entry u v n).tail ≡ u) × ((point_entry u v n).head ≡ v) × ((point_entry u v n).units ≡ n)
point_made u v n = (refl, refl, refl)

module _ (g : Graph) (points : List ℕ) (net : Network) (solved : Solved) (s : IsSolutionOf IsSharedNetworkOf g points net solved) where
  abbrev latency : ℕ
  latency = latency_of_graph g

  abbrev names : List Point
  names = shared_points g points

  abbrev pub carried : List PointUnits
  carried = entries_by point_entry (at_node 0) names net.arcs solved.flow

  abbrev pub value : Point → ℤ
  value x = number_of solved.potential (number_by (shared_terms g) names x)

  abbrev pub stands : Point → ℕ
  stands x = from_zero (value x)

  named : AreNames (shared_terms g) (at_node 0) names
  named = are_names g points s.are

  -- ---- the potentials are from 0 on
  pub rises : (d : Difference Point) → Contains (shared_network g latency) d → d.least ≤ℤ (value d.head -ℤ value d.tail)
  rises d has = numbered.rises_by (shared_terms g) told_point itself_point point_entry point_made (at_node 0) names named (shared_network g latency) net.arcs s.network.arcs.are (shared_arc_found g s.sound) solved.flow solved.potential s.tight d has

  pub root_value : value (at_node 0) ≡ pos 0
  root_value = numbered.root_at (shared_terms g) told_point itself_point point_entry point_made (at_node 0) names named (shared_network g latency) net.arcs s.network.arcs.are (shared_arc_found g s.sound) solved.flow solved.potential s.root

  pub beyond_along : (d : Difference Point) → Contains (map to_mirror (live_connections g) ++ (map root_to (live_nodes g) ++ (ends_to_root g latency ++ map (mirror_to_root latency) (values g)))) d → Contains (shared_network g latency) d
  beyond_along d has = Contains-append_right (map (along_nodes g) (live_connections g)) _ d has

  pub node_from : (v : ℕ) → IsLive g v → pos 0 ≤ℤ value (at_node v)
  node_from v live =
      let there : Contains (shared_network g latency) (root_to v) = beyond_along (root_to v)
      (Contains-append_right (map to_mirror (live_connections g)) _ (root_to v) (Contains-append_left (map root_to (live_nodes g)) _ (root_to v) (Contains-map root_to (live_nodes g) v (live_listed g s.sound v live)))) in
      let r = rises (root_to v) there in
      let z = root_value in
      omega (arith, ints)

  pub mirror_from : (x : Port) → Contains (values g) x → pos 0 ≤ℤ value (mirror x)
  mirror_from x has =
      let c = reader g s.sound x has in
      let there : Contains (shared_network g latency) (to_mirror c.0) = beyond_along (to_mirror c.0) (Contains-append_left (map to_mirror (live_connections g)) _ (to_mirror c.0) (Contains-map to_mirror (live_connections g) c.0 c.1)) in
      let r = rises (to_mirror c.0) there in
      let n = node_from c.0.dst.0 (ends_live g s.sound c.0 c.1).1 in
      let e = ap (λ (y : Port). value (mirror y)) c.2 in
      omega (arith, ints)

  pub from : (k : ℕ) → k < length names → pos 0 ≤ℤ number_of solved.potential k
  from k lt =
      let e = ap (number_of solved.potential) (numbered.number_at (shared_terms g) told_point itself_point (at_node 0) names named k lt) in
      let l : pos 0 ≤ℤ value (name_by (at_node 0) names k) = at_member (name_by (at_node 0) names k) (Contains-append_cases (map at_node points) (map mirror (values g)) _ (Contains-get_or names k (at_node 0) lt)) in
      omega (arith, ints)
    where
      at_point : (v : ℕ) → IsPoint g v → pos 0 ≤ℤ value (at_node v)
      at_point v (inl root) = let z = root_value in let e = ap (λ u. value (at_node u)) root in omega (arith, ints)
      at_point v (inr live) = node_from v live

      at_member : (x : Point) → Contains (map at_node points) x ⊎ Contains (map mirror (values g)) x → pos 0 ≤ℤ value x
      at_member x (inl here) =
          let u = Contains-from_map at_node points x here in
          let l = at_point u.0 (All-contains (IsPoint g) points u.0 s.are.each u.1) in
          let e = ap value u.2 in
          omega (arith, ints)
      at_member x (inr there) =
          let w = Contains-from_map mirror (values g) x there in
          let l = mirror_from w.0 w.1 in
          let e = ap value w.2 in
          omega (arith, ints)

  stands_name : (k : ℕ) → k < length names → pos (stands (name_by (at_node 0) names k)) ≡ number_of solved.potential k
  stands_name = numbered.from_zero_at (shared_terms g) told_point itself_point (at_node 0) names named solved.potential from

  -- ---- the flow
  met : MeetsNeeds (length names) net.arcs (map (λ x. need_by g x.uid x.channel) names) solved.flow
  met v lt = let below : v < net.points = subst (λ n. v < n) (sym s.network.numbered) lt in s.meets v below ∙ ap (λ xs. number_of xs v) s.network.need

  point_named : (v : ℕ) (c : Option ℕ) → IsPointOf g v c → Contains names (record { uid = v; channel = c })
  point_named v None point = node_named g points s.are v (s.are.all v point)
  point_named v (Some c) has = mirror_named g points s.are (record { uid = record { 0 = v }; channel = c }) has

  pub on : All (λ e. IsSome (shared_arc g latency e.tail e.head) × (0 < e.units)) carried
  on = numbered.on_arcs (shared_terms g) told_point itself_point point_entry point_made (at_node 0) names named (shared_network g latency) net.arcs s.network.arcs.are (shared_arc_found g s.sound) solved.flow

  pub is_flow : IsSharedFlow g latency carried
  is_flow = record {
    arcs = All-weaker (λ e. IsSome (shared_arc g latency e.tail e.head) × (0 < e.units)) (λ e. IsSome (shared_arc g latency e.tail e.head)) (λ e h. h.0) carried on;
    needs = λ x point.
        numbered.meets_at (shared_terms g) told_point itself_point point_entry point_made (at_node 0) names named (shared_network g latency) net.arcs s.network.arcs.are (shared_arc_found g s.sound) solved.flow
        (λ y. need_by g y.uid y.channel) met x (point_named x.uid x.channel point);
  }

  in_turn : (i j : ℕ) → i < j → j < length names → IsPointBefore (name_by (at_node 0) names i) (name_by (at_node 0) names j)
  in_turn i j lt l = in_order g points s.are i j (at_node 0) lt l

  before : (a b : Arc) → b.tail < length names → b.head < length names → ComesBefore (a.tail, a.head) (b.tail, b.head) → (m n : ℕ)
      → IsBeforePointArc (point_entry (name_by (at_node 0) names a.tail) (name_by (at_node 0) names a.head) m) (point_entry (name_by (at_node 0) names b.tail) (name_by (at_node 0) names b.head) n)
  before a b t h (inl less) m n = inl (in_turn a.tail b.tail less t)
  before a b t h (inr both) m n = inr (ap (name_by (at_node 0) names) both.0, in_turn a.head b.head both.1 h)

  pub listed : ArePointArcs g latency carried
  listed = record {
    each = on;
    ascending = numbered.entries_pairs (shared_terms g) told_point itself_point point_entry point_made (at_node 0) names IsBeforePointArc net.arcs solved.flow (λ i j d less l.
        let ends = s.network.arcs.are.ends j d l in
        before (get_or net.arcs i d) (get_or net.arcs j d) ends.0 ends.1 (s.network.arcs.rising i j d less l));
  }

  pub bound_is : shared_bound g latency carried ≡ weighted (λ a. a.least) net.arcs solved.flow -ℤ pos (sum_by (λ x. latency_at g x.uid.0) (values g))
  bound_is = ap (λ z. z -ℤ pos (sum_by (λ (x : Port). latency_at g x.uid.0) (values g)))
      (numbered.weight_is (shared_terms g) told_point itself_point point_entry point_made (at_node 0) names named (shared_network g latency) net.arcs s.network.arcs.are (shared_arc_found g s.sound) solved.flow)

  -- ---- the best
  are_potentials : ArePotentials g latency stands
  are_potentials = record {
    root = numbered.at_root (shared_terms g) told_point itself_point point_entry point_made (at_node 0) names named (shared_network g latency) net.arcs s.network.arcs.are (shared_arc_found g s.sound) solved.flow solved.potential s.tight s.root stands stands_name;
    keeps = numbered.keeps (shared_terms g) told_point itself_point point_entry point_made (at_node 0) names named (shared_network g latency) net.arcs s.network.arcs.are (shared_arc_found g s.sound) solved.flow solved.potential s.tight s.root stands stands_name;
  }

  tight_at : All (IsSharedTight g latency stands) carried
  tight_at = numbered.tight_at (shared_terms g) told_point itself_point point_entry point_made (at_node 0) names named (shared_network g latency) net.arcs s.network.arcs.are (shared_arc_found g s.sound) solved.flow solved.potential s.tight s.root stands stands_name

  all_of_it : IsBestShared g (λ v. stands (at_node v)) × (pos (shared_total g (λ v. stands (at_node v))) ≡ shared_bound g latency carried)
      × All (λ x. stands (mirror x) ≡ stands (at_node x.uid.0) + latency_at g x.uid.0 + line_length g (λ v. stands (at_node v)) x) (values g)
  all_of_it = shared_least_of_optima g carried stands s.sound is_flow are_potentials tight_at
      (λ q potentials on_q v live.
      numbered.at_least (shared_terms g) told_point itself_point point_entry point_made (at_node 0) names named (shared_network g latency) net.arcs s.network.arcs.are (shared_arc_found g s.sound) solved.flow solved.potential s.tight s.root stands stands_name
      (λ qs zero_at tight k lt. s.least qs zero_at tight k (subst (λ n. k < n) (sym s.network.numbered) lt))
      q potentials.root potentials.keeps on_q (at_node v) (node_named g points s.are v (s.are.all v (inr live))))

  pub best : IsBestShared g (λ v. stands (at_node v))
  best = all_of_it.0

  pub total_is : pos (shared_total g (λ v. stands (at_node v))) ≡ shared_bound g latency carried
  total_is = all_of_it.1

  pub mirrors_are : All (λ x. stands (mirror x) ≡ stands (at_node x.uid.0) + latency_at g x.uid.0 + line_length g (λ v. stands (at_node v)) x) (values g)
  mirrors_are = all_of_it.2

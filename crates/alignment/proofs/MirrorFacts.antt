-- The links of the values, and what they need at the points of the network of shared lines.
use Rattle.std.proofs.Common.{◌≡◌, ℕ, ◌+◌, ◌-◌, ◌<◌, ◌≤◌, List, [], ◌∷◌, ◌++◌, length, map, take, get_or, slice_index, sym, ap, subst, ◌∙◌, arith, inr}
use Rattle.std.specs.List.{Contains, range_with_len}
use Rattle.std.proofs.lemmas.List.{append_assoc, get_or_default, map-append, take_more}
use Rattle.std.proofs.lemmas.List.FromFn.{map-range_with_len_more}
use Rattle.std.proofs.lemmas.Simd.{map-map}
use Rattle.graph_model.specs.Graphs.{IsNode, latency_at}
use Rattle.graph_model.specs.Paths.{IsLive, is_live}
use Rattle.graph_model.specs.Sound.{IsSound}
use Rattle.graph_model.specs.declared.graph.Connection.{Connection}
use Rattle.graph_model.specs.declared.graph.Graph.{Graph}
use Rattle.graph_model.proofs.LiveLaws.{ends_live}
use Rattle.graph_model.proofs.RankLaws.{nodes_exist}
use Rattle.graph_model.proofs.ReachLaws.{filter_from}
use Rattle.min_cost_flow.specs.declared.network.Arc.{Arc}
use Rattle.plan_model.specs.Lives.{Port, values}
use Rattle.plan_model.specs.SharedFlows.{at_node, mirror, shared_terms, need_by}
use Rattle.plan_model.specs.declared.shared.Point.{Point}
use Rattle.plan_model.proofs.SharedLaws.{told_point, itself_point, every, reader}
use Rattle.alignment.specs.Links.{need_at}
use Rattle.alignment.specs.Mirrors.{mirror_link, mirror_number, arc_from_mirror}
use Rattle.alignment.specs.Networks.{ArePoints, number_in}
use Rattle.alignment.specs.Numbered.{number_by}
use Rattle.alignment.specs.SharedNetworks.{shared_points}
use Rattle.alignment.specs.Values.{port}
use Rattle.alignment.specs.declared.links.Link.{Link}
use Rattle.alignment.specs.declared.values.Value.{Value}
use Rattle.alignment.proofs.LinkFacts.{number_is}
use Rattle.alignment.proofs.NeedLaws.{needs_by}
use Rattle.alignment.proofs.SharedArcFacts.{live_number, mirror_is}
use Rattle.alignment.proofs.SharedNetworkFacts.{needs_linked_at}
use Rattle.alignment.proofs.SortedArcLaws.{map_same_at}
use Rattle.alignment.proofs.SharedPointFacts.{are_names, node_named, mirror_named}
use Rattle.alignment.proofs.ValueListFacts.{placed, listed_value}

-- the arcs from the mirrors so far, with one more
pub from_mirrors-more : (old arcs : List Arc) (latency points k : ℕ) → points ≤ k → arcs ≡ old ++ map (arc_from_mirror latency) (range_with_len points (k - points))
    → arcs ++ arc_from_mirror latency k ∷ [] ≡ old ++ map (arc_from_mirror latency) (range_with_len points (k + 1 - points))
from_mirrors-more old arcs latency points k some is =
    let next : k + 1 - points ≡ k - points + 1 = omega arith in
    let more = map-range_with_len_more (arc_from_mirror latency) points (k - points) k (omega arith) in
    ap (λ xs. xs ++ arc_from_mirror latency k ∷ []) is ∙ append_assoc old (map (arc_from_mirror latency) (range_with_len points (k - points))) (arc_from_mirror latency k ∷ [])
    ∙ ap (λ xs. old ++ xs) (sym more) ∙ ap (λ n. old ++ map (arc_from_mirror latency) (range_with_len points n)) (sym next)

module _ (g : Graph) (points : List ℕ) (sound : IsSound g) (are : ArePoints g points) where
  abbrev names : List Point
  names = shared_points g points

  abbrev pub links : List Link
  links = map (mirror_link g points) (values g)

  -- the node of a value is live
  pub value_live : (x : Port) → Contains (values g) x → IsLive g x.uid.0
  value_live x has = let c = reader g sound x has in subst (IsLive g) (ap (λ (y : Port). y.uid.0) c.2) (ends_live g sound c.0 c.1).0

  pub value_named : (x : Port) → Contains (values g) x → Contains names (at_node x.uid.0)
  value_named x has = node_named g points are x.uid.0 (are.all x.uid.0 (inr (value_live x has)))

  -- ---- the values as they are listed in code
  module _ (xs : List Value) (is : map port xs ≡ values g) where
    listed_live : (k : ℕ) (d : Value) → k < length xs → IsLive g (get_or xs k d).uid
    listed_live k d lt = value_live (port (get_or xs k d)) (listed_value g xs is k d lt)

    -- the node of one is a point, and a node of the graph
    pub listed_point : (k : ℕ) (d : Value) → k < length xs → Contains points (get_or xs k d).uid
    listed_point k d lt = are.all (get_or xs k d).uid (inr (listed_live k d lt))

    pub listed_node : (k : ℕ) (d : Value) → k < length xs → IsNode g (get_or xs k d).uid
    listed_node k d lt =
        let c = reader g sound (port (get_or xs k d)) (listed_value g xs is k d lt) in
        let here = (filter_from (λ e. is_live g e.dst.0) g.connections c.0 c.1).0 in
        let node = (nodes_exist g sound.shaped here.0 c.0 here.1).0 in
        subst (IsNode g) (ap (λ (e : Connection). e.src.0) here.2 ∙ ap (λ (y : Port). y.uid.0) c.2) node

    -- the links so far, with that of one more
    pub mirror_step : (ls more : List Link) (k : ℕ) (d : Value) (tail latency : ℕ) → k < length xs → tail < length points → slice_index points tail ≡ (get_or xs k d).uid
        → latency ≡ latency_at g (get_or xs k d).uid → more ≡ ls ++ record { index = k; tail = tail; head = length points + k; latency = latency } ∷ []
        → ls ≡ map (λ x. mirror_link g points (port x)) (take k xs) → more ≡ map (λ x. mirror_link g points (port x)) (take (k + 1) xs)
    mirror_step ls more k d tail latency lt below at late made so_far =
        let x = get_or xs k d in
        let place = sym (placed g xs is k x lt (λ e. get_or_default xs k e d lt)) in
        let number = number_is g points sound are tail x.uid below at in
        let one : record { index = k; tail = tail; head = length points + k; latency = latency } ≡ mirror_link g points (port x)
        = λ i. record { index = place i; tail = number i; head = length points + place i; latency = late i } in
        made ∙ (λ i. so_far i ++ one i ∷ [])
        ∙ sym (ap (map (λ x. mirror_link g points (port x))) (take_more xs k d lt) ∙ map-append (λ x. mirror_link g points (port x)) (take k xs) (x ∷ []))

  pub needs_are : map (need_at links) (range_with_len 0 (length names)) ≡ map (λ x. need_by g x.uid x.channel) names
  needs_are =
      needs_by (shared_terms g) told_point itself_point (at_node 0) names (are_names g points are) links (values g)
      (map-map (λ (l : Link). l.tail) (mirror_link g points) (values g)
      ∙ map_same_at (λ x. number_in points x.uid.0) (λ x. number_by (shared_terms g) names (at_node x.uid.0)) (values g) (every _ (values g) (λ x has. sym (live_number g points sound are x.uid.0 (value_live x has)))))
      (map-map (λ (l : Link). l.head) (mirror_link g points) (values g)
      ∙ map_same_at (mirror_number g points) (λ x. number_by (shared_terms g) names (mirror x)) (values g) (every _ (values g) (λ x has. sym (mirror_is g points sound are x has))))
      (every _ (values g) value_named) (every _ (values g) (mirror_named g points are))
      (λ x. need_by g x.uid x.channel) (needs_linked_at g points sound are)

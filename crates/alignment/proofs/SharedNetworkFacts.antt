-- The network of shared lines of a sound graph is one that can be solved.
use Rattle.std.proofs.Common.{◌≡◌, ℕ, ◌<◌, ◌≤◌, ◌^◌, pos, neg_ℤ, List, [], ◌∷◌, ◌++◌, length, map, refl, sym, ap, subst, ◌∙◌, arith, ◌⊎◌, inl, inr, cond, Bool, true, false}
use Rattle.std.specs.List.{AllByRecursion, Contains}
use Rattle.std.proofs.lemmas.Int.{ints}
use Rattle.std.proofs.lemmas.List.{length-append, length-map}
use Rattle.std.proofs.lemmas.List.Elements.{All-contains, All-from_recursion, Contains-get_or, Contains-append_cases, Contains-append_left, Contains-append_right}
use Rattle.graph_model.specs.Graphs.{input_name, output_name}
use Rattle.graph_model.specs.Paths.{IsLive, is_live, live_nodes, live_connections, latency_of_graph, reach}
use Rattle.graph_model.specs.Sound.{IsSound}
use Rattle.graph_model.specs.declared.graph.Graph.{Graph}
use Rattle.graph_model.proofs.HistoryLaws.{all_of}
use Rattle.shortest_paths.specs.declared.edges.Edge.{Edge}
use Rattle.min_cost_flow.specs.Flow.{IsNetwork, length_of}
use Rattle.min_cost_flow.specs.declared.network.Network.{Network}
use Rattle.plan_model.specs.Networks.{Difference, Keeps, links_needed}
use Rattle.plan_model.specs.Flows.{IsPoint}
use Rattle.plan_model.specs.Lives.{Port, source, values}
use Rattle.plan_model.specs.SharedFlows.{at_node, mirror, shared_terms, along_nodes, to_mirror, root_to, ends_to_root, mirror_to_root, shared_network, need_by, mirrored}
use Rattle.plan_model.specs.declared.shared.Point.{Point}
use Rattle.plan_model.proofs.LatencyLaws.{few_frames_late}
use Rattle.plan_model.proofs.NetworkLaws.{all_append, all_map}
use Rattle.plan_model.proofs.SavedLaws.{Contains-from_map, Contains-map}
use Rattle.plan_model.proofs.SharedLaws.{told_point, itself_point, every, reader, keeps_shared, needs_of_node, needs_of_mirror}
use Rattle.shortest_paths.specs.Walks.{IsWithin, Reaches}
use Rattle.alignment.specs.Networks.{ArePoints}
use Rattle.alignment.specs.SharedNetworks.{shared_points, IsSharedNetworkOf}
use Rattle.alignment.specs.Numbered.{name_by, number_by}
use Rattle.alignment.proofs.NetworkFacts.{reach_is_alignment, some_latency}
use Rattle.alignment.proofs.SharedPointFacts.{are_names, node_named, mirror_named}
use Rattle.alignment.proofs.SolvableLaws.{hop, joins, solvable}
use Rattle.alignment.proofs.NumberedLaws as numbered
use Rattle.alignment.proofs.SortedArcLaws.{map_same_at}
use Rattle.alignment.proofs.ValueFacts.{each_live, live_listed}
use Rattle.alignment.proofs.ValueListFacts.{few_values}
use Rattle.graph_model.proofs.LiveLaws.{ends_live}

-- the need of a point is the links in minus the links out
pub needs_linked_at : (g : Graph) (points : List ℕ) → IsSound g → ArePoints g points → (x : Point) → Contains (shared_points g points) x → need_by g x.uid x.channel ≡ links_needed (shared_terms g) (values g) x
needs_linked_at g points sound are x has = at_member x (Contains-append_cases (map at_node points) (map mirror (values g)) x has)
  where
    at_member : (x : Point) → Contains (map at_node points) x ⊎ Contains (map mirror (values g)) x → need_by g x.uid x.channel ≡ links_needed (shared_terms g) (values g) x
    at_member x (inl here) =
        let u = Contains-from_map at_node points x here in
        subst (λ y. need_by g y.uid y.channel ≡ links_needed (shared_terms g) (values g) y) u.2 (needs_of_node g sound u.0 (All-contains (IsPoint g) points u.0 are.each u.1))
    at_member x (inr there) =
        let w = Contains-from_map mirror (values g) x there in
        subst (λ y. need_by g y.uid y.channel ≡ links_needed (shared_terms g) (values g) y) w.2 (needs_of_mirror g sound w.0 w.1)

abbrev HasLeastWithin : Difference Point → Type 0
HasLeastWithin d = IsWithin (2 ^ 30) d.least

module _ (g : Graph) (points : List ℕ) (net : Network) (sound : IsSound g) (are : ArePoints g points) (is : IsSharedNetworkOf g points net) where
  abbrev latency : ℕ
  latency = latency_of_graph g

  abbrev names : List Point
  names = shared_points g points

  abbrev number : Point → ℕ
  number x = number_by (shared_terms g) names x

  abbrev edges : List Edge
  edges = map length_of net.arcs

  -- ---- sizes
  few_names : length names ≤ 2 ^ 14
  few_names =
      let both = length-append (map at_node points) (map mirror (values g)) in
      let nodes = length-map points at_node in
      let mirrors = length-map (values g) mirror in
      let few = are.few in
      let fewer = few_values g sound in
      omega arith

  leasts : AllByRecursion HasLeastWithin (shared_network g latency)
  leasts =
      let late = few_frames_late g sound in
      all_append HasLeastWithin (map (along_nodes g) (live_connections g)) _
      (all_map HasLeastWithin (along_nodes g) (live_connections g) (all_of (λ c. HasLeastWithin (along_nodes g c)) (live_connections g) (λ c. let l = some_latency g sound c.src.0 in (omega (arith, ints), omega (arith, ints)))))
      (all_append HasLeastWithin (map to_mirror (live_connections g)) _
      (all_map HasLeastWithin to_mirror (live_connections g) (all_of (λ c. HasLeastWithin (to_mirror c)) (live_connections g) (λ c. (omega (arith, ints), omega (arith, ints)))))
      (all_append HasLeastWithin (map root_to (live_nodes g)) _
      (all_map HasLeastWithin root_to (live_nodes g) (all_of (λ v. HasLeastWithin (root_to v)) (live_nodes g) (λ v. (omega (arith, ints), omega (arith, ints)))))
      (all_append HasLeastWithin (ends_to_root g latency) _ (go (is_live g (input_name g)) late)
      (all_map HasLeastWithin (mirror_to_root latency) (values g) (all_of (λ x. HasLeastWithin (mirror_to_root latency x)) (values g) (λ x. (omega (arith, ints), omega (arith, ints))))))))
    where
      go : (b : Bool) → latency ≤ 67108864 → AllByRecursion HasLeastWithin
          (cond b (record { tail = at_node (input_name g); head = at_node 0; least = pos 0 } ∷ []) [] ++ record { tail = at_node (output_name g); head = at_node 0; least = neg_ℤ (pos latency) } ∷ [])
      go true late = ((omega (arith, ints), omega (arith, ints)), ((omega (arith, ints), omega (arith, ints)), tt))
      go false late = ((omega (arith, ints), omega (arith, ints)), tt)

  -- ---- needs
  needs_linked : net.need ≡ map (links_needed (shared_terms g) (values g)) names
  needs_linked = is.need ∙ map_same_at (λ x. need_by g x.uid x.channel) (links_needed (shared_terms g) (values g)) names (every _ names (λ x has. needs_linked_at g points sound are x has))

  -- ---- walks
  number_at : (k : ℕ) → k < length names → number (name_by (at_node 0) names k) ≡ k
  number_at k lt = numbered.number_at (shared_terms g) told_point itself_point (at_node 0) names (are_names g points are) k lt

  along_edge : (d : Difference Point) → Contains (shared_network g latency) d → Reaches edges (number d.tail) (number d.head)
  along_edge d has = hop (shared_terms g) told_point itself_point (at_node 0) names (are_names g points are) (shared_network g latency) net.arcs is.arcs.are number_at d has

  root_is_first : number (at_node 0) ≡ 0
  root_is_first = let n = are_names g points are in ap number (sym n.first) ∙ number_at 0 n.some

  beyond : (d : Difference Point) → Contains (map to_mirror (live_connections g) ++ (map root_to (live_nodes g) ++ (ends_to_root g latency ++ map (mirror_to_root latency) (values g)))) d → Contains (shared_network g latency) d
  beyond d has = Contains-append_right (map (along_nodes g) (live_connections g)) _ d has

  later : (d : Difference Point) → Contains (map root_to (live_nodes g) ++ (ends_to_root g latency ++ map (mirror_to_root latency) (values g))) d → Contains (shared_network g latency) d
  later d has = beyond d (Contains-append_right (map to_mirror (live_connections g)) _ d has)

  last_ones : (d : Difference Point) → Contains (ends_to_root g latency ++ map (mirror_to_root latency) (values g)) d → Contains (shared_network g latency) d
  last_ones d has = later d (Contains-append_right (map root_to (live_nodes g)) _ d has)

  to_node : (v : ℕ) → IsLive g v → Reaches edges 0 (number (at_node v))
  to_node v live =
      subst (λ k. Reaches edges k (number (at_node v))) root_is_first
      (along_edge (root_to v) (later (root_to v) (Contains-append_left (map root_to (live_nodes g)) _ (root_to v) (Contains-map root_to (live_nodes g) v (live_listed g sound v live)))))

  forth_to : (x : Port) → Contains (values g) x → Reaches edges 0 (number (mirror x))
  forth_to x has =
      let c = reader g sound x has in
      let step = along_edge (to_mirror c.0) (beyond (to_mirror c.0) (Contains-append_left (map to_mirror (live_connections g)) _ (to_mirror c.0) (Contains-map to_mirror (live_connections g) c.0 c.1))) in
      subst (λ y. Reaches edges 0 (number (mirror y))) c.2
      (joins edges 0 (number (at_node c.0.dst.0)) (number (mirror (source c.0))) (to_node c.0.dst.0 (ends_live g sound c.0 c.1).1) step)

  back_from : (x : Port) → Contains (values g) x → Reaches edges (number (mirror x)) 0
  back_from x has =
      subst (λ k. Reaches edges (number (mirror x)) k) root_is_first
      (along_edge (mirror_to_root latency x) (last_ones (mirror_to_root latency x) (Contains-append_right (ends_to_root g latency) _ (mirror_to_root latency x) (Contains-map (mirror_to_root latency) (values g) x has))))

  from_output : Reaches edges (number (at_node (output_name g))) 0
  from_output =
      let d : Difference Point = record { tail = at_node (output_name g); head = at_node 0; least = neg_ℤ (pos latency) } in
      subst (λ k. Reaches edges (number (at_node (output_name g))) k) root_is_first
      (along_edge d (last_ones d (Contains-append_left (ends_to_root g latency) _ d
      (Contains-append_right (cond (is_live g (input_name g)) (record { tail = at_node (input_name g); head = at_node 0; least = pos 0 } ∷ []) []) _ d (0, omega arith, refl)))))

  node_back : (v : ℕ) → IsLive g v → Reaches edges (number (at_node v)) 0
  node_back = each_live g sound (λ v. Reaches edges (number (at_node v)) 0) from_output
      (λ c has rest.
      joins edges (number (at_node c.src.0)) (number (at_node c.dst.0)) 0
      (along_edge (along_nodes g c) (Contains-append_left (map (along_nodes g) (live_connections g)) _ (along_nodes g c) (Contains-map (along_nodes g) (live_connections g) c has))) rest)

  at_each : (Q : ℕ → Type 0) → Q 0 → ((v : ℕ) → IsLive g v → Q (number (at_node v))) → ((x : Port) → Contains (values g) x → Q (number (mirror x))) → (k : ℕ) → k < length names → Q k
  at_each Q q nodes mirrors k lt = subst Q (number_at k lt) (at_member (name_by (at_node 0) names k) (Contains-append_cases (map at_node points) (map mirror (values g)) _ (Contains-get_or names k (at_node 0) lt)))
    where
      at_point : (v : ℕ) → IsPoint g v → Q (number (at_node v))
      at_point v (inl root) = subst (λ u. Q (number (at_node u))) (sym root) (subst Q (sym root_is_first) q)
      at_point v (inr live) = nodes v live

      at_member : (x : Point) → Contains (map at_node points) x ⊎ Contains (map mirror (values g)) x → Q (number x)
      at_member x (inl here) = let u = Contains-from_map at_node points x here in subst (λ y. Q (number y)) u.2 (at_point u.0 (All-contains (IsPoint g) points u.0 are.each u.1))
      at_member x (inr there) = let w = Contains-from_map mirror (values g) x there in subst (λ y. Q (number y)) w.2 (mirrors w.0 w.1)

  pub shared_network_is_one : IsNetwork net
  shared_network_is_one =
      solvable (shared_terms g) told_point itself_point (at_node 0) names (are_names g points are) (shared_network g latency) net.arcs is.arcs.are net is.numbered refl (values g) needs_linked
      few_names is.arcs.few (let few = few_values g sound in omega arith) (All-from_recursion HasLeastWithin (shared_network g latency) leasts)
      (every _ (values g) (λ x has.
      let c = reader g sound x has in
      let e = ap (λ (y : Port). y.uid.0) c.2 in
      subst (λ v. Contains names (at_node v)) e (node_named g points are c.0.src.0 (are.all c.0.src.0 (inr (ends_live g sound c.0 c.1).0)))))
      (every _ (values g) (λ x has. mirror_named g points are x has))
      (mirrored g (reach g))
      (All-from_recursion (Keeps (mirrored g (reach g))) (shared_network g latency) (keeps_shared g sound latency (reach g) (reach_is_alignment g sound) refl))
      (at_each (λ k. Reaches edges 0 k) ([], refl) to_node forth_to)
      (at_each (λ k. Reaches edges k 0) ([], refl) node_back back_from)

-- The reaches are an alignment, and the network of a sound graph is one that can be solved.
use Rattle.std.proofs.Common.{◌≡◌, ◌≢◌, ℕ, suc, ◌<◌, ◌≤◌, ◌^◌, ◌==◌, pos, neg_ℤ, List, [], ◌∷◌, ◌++◌, length, map, slice_index, get_or, Option, Some, None, Bool, true, false, cond, inl, inr, refl, sym, ap, subst, ◌∙◌, arith}
use Rattle.std.specs.Prelude.{AllPairs, is_some}
use Rattle.std.specs.List.{All, AllByRecursion, Contains, find, range_with_len}
use Rattle.std.proofs.lemmas.Bool.{eqb-true, false≢true}
use Rattle.std.proofs.lemmas.Int.{ints}
use Rattle.std.proofs.lemmas.List.Elements.{All-contains, All-from_recursion, Contains-get_or, recursion_from_All}
use Rattle.std.proofs.lemmas.List.Sums.{count_by-le-length, length-filter}
use Rattle.graph_model.specs.Graphs.{IsJoined, IsNode, ins_at, input_name, is_input, latency_at, name_or_zero, node_named, or_zero, output_name}
use Rattle.graph_model.specs.Kinds.{ins_of, latency_of}
use Rattle.graph_model.specs.Members.{bad_member}
use Rattle.graph_model.specs.Paths.{IsLive, IsPathTo, depth, is_live, latencies, latency_of_graph, live_connections, live_nodes, reach}
use Rattle.graph_model.specs.Ranges.{HasRange, IsInRange}
use Rattle.graph_model.specs.Sound.{IsSound}
use Rattle.graph_model.specs.declared.graph.Graph.{Graph}
use Rattle.graph_model.specs.declared.graph.Node.{Node}
use Rattle.graph_model.specs.declared.graph.Uid.{Uid}
use Rattle.graph_model.specs.declared.kind.Kind.{Kind}
use Rattle.graph_model.specs.declared.kind.Kind.TheVariants.{Input, Output, Gain, Mixer, Fir, Biquad, Limiter, Delay, Insert}
use Rattle.graph_model.proofs.HistoryLaws.{all_of}
use Rattle.graph_model.proofs.LiveLaws.{ends_live}
use Rattle.graph_model.proofs.NodeFacts.{find-all, output_is_node}
use Rattle.graph_model.proofs.PathLaws.{first_or_later, same_name}
use Rattle.graph_model.proofs.RangeLaws.{in_range}
use Rattle.graph_model.proofs.RankLaws.{sound_is_ranked}
use Rattle.graph_model.proofs.ReachLaws.{filter_from, reach_after, reach_is_longest}
use Rattle.min_cost_flow.specs.Flow.{IsNetwork, length_of}
use Rattle.min_cost_flow.specs.declared.network.Network.{Network}
use Rattle.shortest_paths.specs.Walks.{IsWithin, Reaches}
use Rattle.shortest_paths.specs.declared.edges.Edge.{Edge}
use Rattle.plan_model.specs.Alignments.{IsAlignment}
use Rattle.plan_model.specs.Duality.{rooted}
use Rattle.plan_model.specs.Flows.{IsPoint, along, from_root, need_of_point, network, terms}
use Rattle.plan_model.specs.Networks.{Difference}
use Rattle.plan_model.proofs.DualityLaws.{Keeps, keeps_all}
use Rattle.plan_model.proofs.LatencyLaws.{few_frames_late}
use Rattle.plan_model.proofs.NetworkLaws.{all_append, all_map, all_weaker}
use Rattle.plan_model.proofs.SharedLaws.{every}
use Rattle.alignment.specs.Links.{links_of, need_at}
use Rattle.alignment.specs.Networks.{ArePoints, IsNetworkOf, number_in}
use Rattle.alignment.proofs.ArcFacts.{find_one}
use Rattle.alignment.proofs.LinkFacts.{all_links_map}
use Rattle.alignment.proofs.NeedLaws.{needs_by}
use Rattle.alignment.proofs.NetworkArcFacts.{root_number}
use Rattle.alignment.proofs.PlaceListFacts.{are_named, number_at}
use Rattle.alignment.proofs.SolvableLaws.{hop, joins, solvable}
use Rattle.alignment.proofs.ValueFacts.{along_there, each_live, from_root_there, output_there}

-- ---- the input node
-- the first node of a node's name is the node itself
found_itself : (ns : List Node) (n : Node) → AllPairs (λ m o. m.uid ≢ o.uid) ns → Contains ns n → find (λ m. m.uid.0 == n.uid.0) ns ≡ Some n
found_itself [] n differ has = let l = has.1 in absurd (omega arith)
found_itself (m ∷ ns) n differ has =
    elim (first_or_later m n ns has) [
      | inl same ↦ ap (λ b. cond b (Some m) (find (λ o. o.uid.0 == n.uid.0) ns)) (ap (λ (o : Node). o.uid.0 == n.uid.0) same ∙ same_name n.uid.0) ∙ ap Some same
      | inr there ↦ go (found_itself ns n (λ i j d l k. differ (suc i) (suc j) d (omega arith) (omega arith)) there) (m.uid.0 == n.uid.0) refl there
    ]
  where
    equal : (u v : Uid) → u.0 ≡ v.0 → u ≡ v
    equal u v e = λ i. record { 0 = e i }

    go : find (λ o. o.uid.0 == n.uid.0) ns ≡ Some n → (b : Bool) → (m.uid.0 == n.uid.0) ≡ b → Contains ns n → cond b (Some m) (find (λ o. o.uid.0 == n.uid.0) ns) ≡ Some n
    go rest true e there =
        let others : All (λ o. m.uid ≢ o.uid) ns = λ k d l. differ 0 (suc k) d (omega arith) (omega arith) in
        absurd (All-contains (λ o. m.uid ≢ o.uid) ns n others there (equal m.uid n.uid (eqb-true _ _ e)))
    go rest false e there = rest

-- an input node has no input channels
no_ins : (kind : Kind) → is_input kind ≡ true → ins_of kind ≡ 0
no_ins (Input channels) e = refl
no_ins kind e = absurd (false≢true e)

module _ (g : Graph) (sound : IsSound g) where
  -- the input node has its name, and no input channels
  input_there : IsNode g (input_name g) × (ins_at g (input_name g) ≡ 0)
  input_there =
      let f = find_one (λ n. is_input n.kind) g.nodes sound.shaped.ends.0 in
      let at : input_name g ≡ f.0.uid.0 = ap name_or_zero f.3 in
      let itself : node_named g (input_name g) ≡ Some f.0 = ap (node_named g) at ∙ found_itself g.nodes f.0 sound.shaped.uids_differ f.1 in
      (ap is_some itself, ap (or_zero ins_of) itself ∙ no_ins f.0.kind f.2)

  -- no connection leads into it
  input_alone : (u : ℕ) → IsJoined g u (input_name g) → ⊥
  input_alone u (c, has, src, dst) =
      let below : All (λ d. d.dst_channel < ins_at g d.dst.0) g.connections = λ k d l. (sound.shaped.connections k d l).destination_channel in
      let here = All-contains (λ d. d.dst_channel < ins_at g d.dst.0) g.connections c below has in
      let none = ap (ins_at g) dst in
      let zero_ins = input_there.1 in
      omega arith

  -- so no path into it has a node before it
  nothing_before : (us : List ℕ) → IsPathTo g (input_name g) us → latencies g us ≡ 0
  nothing_before [] path = refl
  nothing_before (u ∷ us) path = absurd (input_alone u path.1)

  -- and its reach is 0
  input_first : reach g (input_name g) ≡ 0
  input_first =
      let longest = (reach_is_longest g (depth g) (sound_is_ranked g sound) (input_name g) input_there.0).reached in
      sym longest.2 ∙ nothing_before longest.0 longest.1

-- the reaches are an alignment
pub reach_is_alignment : (g : Graph) → IsSound g → IsAlignment g (reach g)
reach_is_alignment g sound = record {
  input = λ live. input_first g sound;
  after = λ k d l.
      let kept = filter_from (λ c. is_live g c.dst.0) g.connections (get_or (live_connections g) k d) (Contains-get_or (live_connections g) k d l) in
      reach_after g (depth g) (sound_is_ranked g sound) (get_or (live_connections g) k d) kept.0;
}

-- ---- sizes
-- a latency is at most 2 ^ 20 frames
few_frames : (kind : Kind) → HasRange kind → latency_of kind ≤ 2 ^ 20
few_frames (Input channels) r = omega arith
few_frames (Output channels) r = omega arith
few_frames (Gain channels gain) r = omega arith
few_frames (Mixer ins outs gains) r = omega arith
few_frames (Fir channels taps shift latency) r = let l = r.1.1 in let m = r.4 in omega arith
few_frames (Biquad channels b0 b1 b2 a1 a2 shift bits) r = omega arith
few_frames (Limiter channels threshold lookahead) r = let l = r.2.1 in omega arith
few_frames (Delay channels samples) r = omega arith
few_frames (Insert channels samples) r = r.1

-- a difference constraint whose least difference is within the bound
abbrev HasLeastWithin : ℕ → Difference ℕ → Type 0
HasLeastWithin bound d = IsWithin bound d.least

-- the least differences are within the latencies
leasts_within : (g : Graph) (bound latency : ℕ) → ((v : ℕ) → latency_at g v ≤ bound) → latency ≤ bound → AllByRecursion (HasLeastWithin bound) (network g latency)
leasts_within g bound latency each most =
    all_append (HasLeastWithin bound) (map (along g) (live_connections g)) _
    (all_map (HasLeastWithin bound) (along g) (live_connections g) (all_of (λ c. HasLeastWithin bound (along g c)) (live_connections g) (λ c. let l = each c.src.0 in (omega (arith, ints), omega (arith, ints)))))
    (all_append (HasLeastWithin bound) (map from_root (live_nodes g)) _
    (all_map (HasLeastWithin bound) from_root (live_nodes g) (all_of (λ v. HasLeastWithin bound (from_root v)) (live_nodes g) (λ v. (omega (arith, ints), omega (arith, ints)))))
    (go (is_live g (input_name g))))
  where
    go : (b : Bool) → AllByRecursion (HasLeastWithin bound) (cond b (record { tail = input_name g; head = 0; least = pos 0 } ∷ []) [] ++ record { tail = output_name g; head = 0; least = neg_ℤ (pos latency) } ∷ [])
    go true = ((omega (arith, ints), omega (arith, ints)), ((omega (arith, ints), omega (arith, ints)), tt))
    go false = ((omega (arith, ints), omega (arith, ints)), tt)

-- a node's latency
pub some_latency : (g : Graph) → IsSound g → (v : ℕ) → latency_at g v ≤ 2 ^ 20
some_latency g sound v = go (node_named g v) refl
  where
    ranges : AllByRecursion IsInRange g.nodes
    ranges = all_weaker (λ n. bad_member n ≡ None) IsInRange g.nodes in_range (recursion_from_All (λ n. bad_member n ≡ None) g.nodes sound.shaped.in_range)

    go : (o : Option Node) → node_named g v ≡ o → or_zero latency_of o ≤ 2 ^ 20
    go None e = omega arith
    go (Some n) e = few_frames n.kind (find-all (λ m. m.uid.0 == v) IsInRange g.nodes n ranges e).0.1

-- ---- needs
module _ (g : Graph) (points : List ℕ) (sound : IsSound g) (are : ArePoints g points) where
  -- the ends of the live connections are points
  sources : AllByRecursion (λ c. Contains points c.src.0) (live_connections g)
  sources = every _ (live_connections g) (λ c has. are.all c.src.0 (inr (ends_live g sound c has).0))

  targets : AllByRecursion (λ c. Contains points c.dst.0) (live_connections g)
  targets = every _ (live_connections g) (λ c has. are.all c.dst.0 (inr (ends_live g sound c has).1))

  pub needs_are : map (need_at (links_of g points)) (range_with_len 0 (length points)) ≡ map (need_of_point g) points
  needs_are =
      needs_by (terms g) eqb-true same_name 0 points (are_named g points are) (links_of g points) (live_connections g)
      (all_links_map (λ l. l.tail) (λ c. number_in points c.src.0) g points (λ j lt live. refl))
      (all_links_map (λ l. l.head) (λ c. number_in points c.dst.0) g points (λ j lt live. refl))
      sources targets (need_of_point g) (λ v has. refl)

-- ---- the network of a sound graph is one that can be solved
module _ (g : Graph) (points : List ℕ) (net : Network) (sound : IsSound g) (are : ArePoints g points) (is : IsNetworkOf g points net) where
  abbrev latency : ℕ
  latency = latency_of_graph g

  abbrev edges : List Edge
  edges = map length_of net.arcs

  -- ---- walks
  along_edge : (d : Difference ℕ) → Contains (network g latency) d → Reaches edges (number_in points d.tail) (number_in points d.head)
  along_edge d has = hop (terms g) eqb-true same_name 0 points (are_named g points are) (network g latency) net.arcs is.arcs.are (number_at g points are) d has

  root_is_first : number_in points 0 ≡ 0
  root_is_first = root_number g points sound are

  to_node : (v : ℕ) → IsLive g v → Reaches edges 0 (number_in points v)
  to_node v live = subst (λ k. Reaches edges k (number_in points v)) root_is_first (along_edge (from_root v) (from_root_there g sound v live))

  from_output : Reaches edges (number_in points (output_name g)) 0
  from_output =
      subst (λ k. Reaches edges (number_in points (output_name g)) k) root_is_first
      (along_edge (record { tail = output_name g; head = 0; least = neg_ℤ (pos latency) }) (output_there g sound))

  node_back : (v : ℕ) → IsLive g v → Reaches edges (number_in points v) 0
  node_back = each_live g sound (λ v. Reaches edges (number_in points v) 0) from_output
      (λ c has rest. joins edges (number_in points c.src.0) (number_in points c.dst.0) 0 (along_edge (along g c) (along_there g sound c has)) rest)

  at_each : (Q : ℕ → Type 0) → Q 0 → ((v : ℕ) → IsLive g v → Q (number_in points v)) → (k : ℕ) → k < length points → Q k
  at_each Q q nodes k lt = subst Q (number_at g points are k lt) (at_point (slice_index points k) (are.each k 0 lt))
    where
      at_point : (v : ℕ) → IsPoint g v → Q (number_in points v)
      at_point v (inl root) = subst (λ u. Q (number_in points u)) (sym root) (subst Q (sym root_is_first) q)
      at_point v (inr live) = nodes v live

  -- ---- numbers
  -- the least differences fit
  least_within : All (HasLeastWithin (2 ^ 30)) (network g latency)
  least_within =
      All-from_recursion (HasLeastWithin (2 ^ 30)) (network g latency)
      (leasts_within g (2 ^ 30) latency (λ v. let l = some_latency g sound v in omega arith) (let l = few_frames_late g sound in omega arith))

  -- there are at most as many live connections as connections
  few_live : length (live_connections g) ≤ 2 ^ 14
  few_live =
      let kept = length-filter (λ c. is_live g c.dst.0) g.connections in
      let most = count_by-le-length (λ c. is_live g c.dst.0) g.connections in
      let fits = sound.fits.1 in
      omega arith

  pub network_is_one : IsNetwork net
  network_is_one =
      solvable (terms g) eqb-true same_name 0 points (are_named g points are) (network g latency) net.arcs is.arcs.are net is.numbered refl (live_connections g) is.need
      (let few = are.few in omega arith) (let few = is.arcs.few in omega arith) few_live least_within (sources g points sound are) (targets g points sound are) (rooted (reach g))
      (All-from_recursion (Keeps (reach g)) (network g latency) (keeps_all g (depth g) sound (sound_is_ranked g sound) latency (reach g) (reach_is_alignment g sound) refl (output_is_node g sound)))
      (at_each (λ k. Reaches edges 0 k) ([], refl) to_node)
      (at_each (λ k. Reaches edges k 0) ([], refl) node_back)

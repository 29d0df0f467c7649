-- What the solver gives for the network of shared lines is the best alignment, with its lines and its flow.
use Rattle.std.proofs.Common.{◌≡◌, ℕ, ◌+◌, ◌-◌, ◌<◌, ◌≤◌, ◌^◌, ℤ, pos, ◌+ℤ◌, ◌-ℤ◌, ◌≤ℤ◌, List, length, map, drop, take, get_or, sym, ap, subst, ◌∙◌, arith, ◌⊎◌, inl, inr}
use Rattle.std.specs.Prelude.{sum_by}
use Rattle.std.specs.List.{All, Contains}
use Rattle.std.proofs.lemmas.Int.{ints}
use Rattle.std.proofs.lemmas.List.{get_or_default, get_or-map, get_or-take, length-take, length-append, length-map}
use Rattle.std.proofs.lemmas.List.Elements.{All-contains, All-from_recursion, All-map, Contains-get_or, Contains-append_cases, Contains-append_left, Contains-append_right}
use Rattle.std.proofs.lemmas.Simd.{map-map}
use Rattle.graph_model.specs.Graphs.{latency_at, output_name}
use Rattle.graph_model.specs.Paths.{IsLive, live_nodes, live_connections, latency_of_graph}
use Rattle.graph_model.specs.declared.graph.Graph.{Graph}
use Rattle.min_cost_flow.specs.Laws.{weighted}
use Rattle.min_cost_flow.specs.declared.network.Network.{Network}
use Rattle.min_cost_flow.specs.declared.network.Solved.{Solved}
use Rattle.plan_model.specs.Alignments.{position_in}
use Rattle.plan_model.specs.Flows.{IsPoint}
use Rattle.plan_model.specs.Lives.{Port, values}
use Rattle.plan_model.specs.SharedFlows.{at_node, mirror, shared_terms, along_nodes, to_mirror, root_to, ends_to_root, mirror_to_root}
use Rattle.plan_model.specs.SharedLines.{IsBestShared, line_length, shared_lines, shared_total}
use Rattle.plan_model.specs.SharedResults.{IsAlignedShared}
use Rattle.plan_model.specs.declared.alignment.At.{At}
use Rattle.plan_model.specs.declared.shared.LineOf.{LineOf}
use Rattle.plan_model.specs.declared.shared.Point.{Point}
use Rattle.plan_model.specs.declared.shared.PointUnits.{PointUnits}
use Rattle.plan_model.proofs.BestLaws.{best_same}
use Rattle.plan_model.proofs.LastLaws.{output_is_last}
use Rattle.plan_model.proofs.LatencyLaws.{few_frames_late}
use Rattle.plan_model.proofs.NetworkLaws.{sum_by_map}
use Rattle.plan_model.proofs.SavedLaws.{Contains-from_map, Contains-map}
use Rattle.plan_model.proofs.SharedBestLaws.{lines_same, shared_total_same}
use Rattle.plan_model.proofs.SharedCertifiedLaws.{sum_shared}
use Rattle.plan_model.proofs.SharedLaws.{told_point, itself_point, every, reader}
use Rattle.plan_model.proofs.SumLaws.{sum_same}
use Rattle.shortest_paths.specs.Walks.{IsWithin, number_of, from_zero}
use Rattle.alignment.specs.Mirrors.{mirror_link, mirror_number, line_of_link}
use Rattle.alignment.specs.Networks.{number_in}
use Rattle.alignment.specs.Numbered.{name_by, number_by}
use Rattle.alignment.specs.Places.{ArePositions, IsTimely, places_of, delay_of}
use Rattle.alignment.specs.SharedNetworks.{shared_points, IsSharedNetworkOf}
use Rattle.alignment.specs.Values.{port, place_of_value}
use Rattle.alignment.specs.declared.links.Link.{Link}
use Rattle.alignment.specs.declared.values.Value.{Value}
use Rattle.alignment.proofs.MirrorFacts.{value_live, value_named}
use Rattle.alignment.proofs.NumberedLaws as numbered
use Rattle.alignment.proofs.NumberedLaws.{from_zero_is}
use Rattle.alignment.proofs.PlaceListFacts.{stands_at}
use Rattle.alignment.proofs.PointFacts.{live_nodes_are, live_position}
use Rattle.alignment.proofs.SharedArcFacts.{live_number, mirror_is}
use Rattle.alignment.proofs.SharedNetworkFacts.{shared_network_is_one}
use Rattle.alignment.proofs.SortedArcLaws.{map_same_at}
use Rattle.alignment.proofs.SharedPointFacts.{are_names, mirror_named}
use Rattle.alignment.proofs.SharedSolutionFacts.{carried, value, stands, rises, root_value, node_from, mirror_from, beyond_along, is_flow, listed, bound_is, best, total_is, mirrors_are}
use Rattle.alignment.proofs.SolutionFacts.{IsSolutionOf}
use Rattle.alignment.proofs.StepFacts.{in_frames}
use Rattle.alignment.proofs.ValueListFacts.{few_values, at_place}

module _ (g : Graph) (points : List ℕ) (net : Network) (solved : Solved) (s : IsSolutionOf IsSharedNetworkOf g points net solved) where
  abbrev names : List Point
  names = shared_points g points

  -- the potentials of the root and the nodes
  abbrev nodes_at : List ℤ
  nodes_at = take (length points) solved.potential

  abbrev pub at : List At
  at = places_of (drop 1 points) (drop 1 nodes_at)

  pub long : length points ≤ length solved.potential
  long = let a = length-append (map at_node points) (map mirror (values g)) in let b = length-map points at_node in let c = s.each in let d = s.network.numbered in omega arith

  pub as_many : length nodes_at ≡ length points
  as_many = let l = length-take (length points) solved.potential in let m = long in omega arith

  -- the position of a live node is its potential
  position_is : (v : ℕ) → IsLive g v → position_in at v ≡ stands g points net solved s (at_node v)
  position_is v live =
      live_position g points s.sound s.are nodes_at as_many v live
      ∙ ap from_zero (get_or-take (length points) solved.potential (number_in points v) (pos 0) (stands_at g points v (s.are.all v (inr live))).0)
      ∙ ap (λ j. from_zero (number_of solved.potential j)) (sym (live_number g points s.sound s.are v live))

  pub best_of_at : IsBestShared g (position_in at)
  best_of_at = best_same (shared_total g) g s.sound (λ v. stands g points net solved s (at_node v)) (position_in at) position_is
      (shared_total_same g s.sound (λ v. stands g points net solved s (at_node v)) (position_in at) position_is) (best g points net solved s)

  total_at : shared_total g (position_in at) ≡ shared_total g (λ v. stands g points net solved s (at_node v))
  total_at = shared_total_same g s.sound (λ v. stands g points net solved s (at_node v)) (position_in at) position_is

  -- the line that the potentials leave to a mirror
  abbrev pub line_left : Port → LineOf
  line_left x = record { uid = x.uid; channel = x.channel; delay = stands g points net solved s (mirror x) - (stands g points net solved s (at_node x.uid.0) + latency_at g x.uid.0) }

  pub lines_are : map line_left (values g) ≡ shared_lines g (position_in at)
  lines_are =
      map_same_at line_left _ (values g) (every _ (values g) (λ x has.
      let m = All-contains (λ x. stands g points net solved s (mirror x) ≡ stands g points net solved s (at_node x.uid.0) + latency_at g x.uid.0 + line_length g (λ v. stands g points net solved s (at_node v)) x) (values g) x (mirrors_are g points net solved s) has in
      let l = lines_same g s.sound (λ v. stands g points net solved s (at_node v)) (position_in at) position_is x in
      let delay_is : stands g points net solved s (mirror x) - (stands g points net solved s (at_node x.uid.0) + latency_at g x.uid.0) ≡ line_length g (position_in at) x = omega arith in
      ap (λ n. of_length x n) delay_is))
    where
      of_length : Port → ℕ → LineOf
      of_length x n = record { uid = x.uid; channel = x.channel; delay = n }

  -- ---- sizes
  abbrev latency : ℕ
  latency = latency_of_graph g

  abbrev potential_of : Point → ℤ
  potential_of x = value g points net solved s x

  late : latency ≤ 2 ^ 26
  late = few_frames_late g s.sound

  -- a position from 0 on is the potential
  pub stands_is : (x : Point) → pos 0 ≤ℤ potential_of x → pos (stands g points net solved s x) ≡ potential_of x
  stands_is x l = from_zero_is (potential_of x) l

  node_within : (v : ℕ) → IsLive g v → (pos 0 ≤ℤ potential_of (at_node v)) × (potential_of (at_node v) ≤ℤ pos latency)
  node_within v live =
      let low = node_from g points net solved s v live in
      let all = best g points net solved s in
      let last = output_is_last g s.sound (λ u. stands g points net solved s (at_node u)) all.alignment v live in
      let end : stands g points net solved s (at_node (output_name g)) ≡ latency = all.latency in
      let here = stands_is (at_node v) low in
      (low, omega (arith, ints))

  mirror_within : (x : Port) → Contains (values g) x → (pos 0 ≤ℤ potential_of (mirror x)) × (potential_of (mirror x) ≤ℤ pos latency)
  mirror_within x has =
      let back = Contains-append_right (map root_to (live_nodes g)) _ (mirror_to_root latency x)
      (Contains-append_right (ends_to_root g latency) _ (mirror_to_root latency x) (Contains-map (mirror_to_root latency) (values g) x has)) in
      let there = beyond_along g points net solved s (mirror_to_root latency x) (Contains-append_right (map to_mirror (live_connections g)) _ (mirror_to_root latency x) back) in
      let r = rises g points net solved s (mirror_to_root latency x) there in
      let z = root_value g points net solved s in
      (mirror_from g points net solved s x has, omega (arith, ints))

  point_within : (x : Point) → Contains names x → (pos 0 ≤ℤ potential_of x) × (potential_of x ≤ℤ pos latency)
  point_within x has = at_member x (Contains-append_cases (map at_node points) (map mirror (values g)) x has)
    where
      at_point : (v : ℕ) → IsPoint g v → (pos 0 ≤ℤ potential_of (at_node v)) × (potential_of (at_node v) ≤ℤ pos latency)
      at_point v (inl root) = let z = root_value g points net solved s in let e = ap (λ u. potential_of (at_node u)) root in (omega (arith, ints), omega (arith, ints))
      at_point v (inr live) = node_within v live

      at_member : (y : Point) → Contains (map at_node points) y ⊎ Contains (map mirror (values g)) y → (pos 0 ≤ℤ potential_of y) × (potential_of y ≤ℤ pos latency)
      at_member y (inl here) =
          let u = Contains-from_map at_node points y here in
          subst (λ z. (pos 0 ≤ℤ potential_of z) × (potential_of z ≤ℤ pos latency)) u.2 (at_point u.0 (All-contains (IsPoint g) points u.0 s.are.each u.1))
      at_member y (inr there) =
          let w = Contains-from_map mirror (values g) y there in
          subst (λ z. (pos 0 ≤ℤ potential_of z) × (potential_of z ≤ℤ pos latency)) w.2 (mirror_within w.0 w.1)

  -- the potentials are positions
  pub positions : ArePositions solved.potential
  positions = λ k d lt.
      let few : k < length names = omega (arith, s.each, s.network.numbered) in
      let w = point_within (name_by (at_node 0) names k) (Contains-get_or names k (at_node 0) few) in
      let e = ap (number_of solved.potential) (numbered.number_at (shared_terms g) told_point itself_point (at_node 0) names (are_names g points s.are) k few) in
      let same : get_or solved.potential k d ≡ number_of solved.potential k = get_or_default solved.potential k d (pos 0) lt in
      let most = late in
      (omega (arith, ints), omega (arith, ints))

  -- and so are those of the nodes
  pub node_positions : ArePositions nodes_at
  node_positions = λ k d lt.
      let few : k < length points = omega (arith, as_many) in
      let same : get_or nodes_at k d ≡ get_or solved.potential k d = get_or-take (length points) solved.potential k d few in
      subst (λ z. (pos 0 ≤ℤ z) × (z ≤ℤ pos (2 ^ 26))) (sym same) (positions k d (omega (arith, long)))

  -- ---- lines
  abbrev links : List Link
  links = map (mirror_link g points) (values g)

  -- the ends of the link of a value
  tail_is : (x : Port) → Contains (values g) x → number_of solved.potential (number_in points x.uid.0) ≡ potential_of (at_node x.uid.0)
  tail_is x has = ap (number_of solved.potential) (sym (live_number g points s.sound s.are x.uid.0 (value_live g points s.sound s.are x has)))

  head_is : (x : Port) → Contains (values g) x → number_of solved.potential (mirror_number g points x) ≡ potential_of (mirror x)
  head_is x has = ap (number_of solved.potential) (sym (mirror_is g points s.sound s.are x has))

  below : (y : Point) → Contains names y → number_by (shared_terms g) names y < length solved.potential
  below y has = let p = numbered.stands_by (shared_terms g) told_point itself_point (at_node 0) names y has in let l = p.0 in omega (arith, s.each, s.network.numbered)

  after : (x : Port) → Contains (values g) x → (potential_of (at_node x.uid.0) +ℤ pos (latency_at g x.uid.0)) ≤ℤ potential_of (mirror x)
  after x has =
      let c = reader g s.sound x has in
      let along = rises g points net solved s (along_nodes g c.0) (Contains-append_left (map (along_nodes g) (live_connections g)) _ (along_nodes g c.0) (Contains-map (along_nodes g) (live_connections g) c.0 c.1)) in
      let read = rises g points net solved s (to_mirror c.0)
      (beyond_along g points net solved s (to_mirror c.0) (Contains-append_left (map to_mirror (live_connections g)) _ (to_mirror c.0) (Contains-map to_mirror (live_connections g) c.0 c.1))) in
      subst (λ y. (potential_of (at_node y.uid.0) +ℤ pos (latency_at g y.uid.0)) ≤ℤ potential_of (mirror y)) c.2 (omega (arith, ints))

  timely_link : (x : Port) → Contains (values g) x → IsTimely solved.potential (mirror_link g points x)
  timely_link x has =
      let t = tail_is x has in
      let h = head_is x has in
      let a = after x has in
      let u = live_number g points s.sound s.are x.uid.0 (value_live g points s.sound s.are x has) in
      let v = mirror_is g points s.sound s.are x has in
      let m = below (at_node x.uid.0) (value_named g points s.sound s.are x has) in
      let n = below (mirror x) (mirror_named g points s.are x has) in
      record { tail = omega arith; head = omega arith; after = omega (arith, ints) }

  pub timely : All (IsTimely solved.potential) links
  timely = All-map (IsTimely solved.potential) (mirror_link g points) (values g) (All-from_recursion _ (values g) (every _ (values g) timely_link))

  pub few_links : length links ≤ 2 ^ 13
  few_links = let few = few_values g s.sound in let m = length-map (values g) (mirror_link g points) in omega arith

  -- what the link of a value holds back is its line
  held : (x : Port) → Contains (values g) x → delay_of solved.potential (mirror_link g points x) ≡ (line_left x).delay
  held x has =
      let t = tail_is x has in
      let h = head_is x has in
      let v = value_live g points s.sound s.are x has in
      (λ i. from_zero (h i -ℤ (t i +ℤ pos (latency_at g x.uid.0))))
      ∙ (in_frames (potential_of (at_node x.uid.0)) (potential_of (mirror x)) (latency_at g x.uid.0) (node_within x.uid.0 v).0 (mirror_within x has).0 (after x has)).1

  pub held_is : sum_by (delay_of solved.potential) links ≡ sum_by (λ (l : LineOf). l.delay) (map line_left (values g))
  held_is =
      sum_by_map (delay_of solved.potential) (mirror_link g points) (values g)
      ∙ sum_same (λ x. delay_of solved.potential (mirror_link g points x)) (λ x. (line_left x).delay) (values g) (every _ (values g) held)
      ∙ sym (sum_by_map (λ (l : LineOf). l.delay) line_left (values g))

  -- the names of the lines are those of the values
  module _ (xs : List Value) (is : map port xs ≡ values g) where
    value_there : (x : Port) → Contains (values g) x → (place_of_value g x < length xs) × (port (get_or xs (place_of_value g x) (record { uid = 0; channel = 0 })) ≡ x)
    value_there x has =
        let p = at_place g x has in
        let lt : place_of_value g x < length xs = omega (arith, p.0, ap length is, length-map xs port) in
        (lt, sym (get_or-map port xs (place_of_value g x) (record { uid = 0; channel = 0 }) x lt) ∙ ap (λ ys. get_or ys (place_of_value g x) x) is ∙ p.1)

    pub links_named : All (λ l. l.index < length xs) links
    links_named = All-map (λ (l : Link). l.index < length xs) (mirror_link g points) (values g) (All-from_recursion _ (values g) (every _ (values g) (λ x has. (value_there x has).0)))

    pub lines_left : map (line_of_link xs solved.potential) links ≡ map line_left (values g)
    lines_left =
        map-map (line_of_link xs solved.potential) (mirror_link g points) (values g)
        ∙ map_same_at (λ x. line_of_link xs solved.potential (mirror_link g points x)) line_left (values g) (every _ (values g) (λ x has.
        let n = (value_there x has).1 in
        let d = held x has in
        λ i. record { uid = (n i).uid; channel = (n i).channel; delay = d i }))

  -- ---- the flow
  -- each least difference fits
  pub leasts : All (λ a. IsWithin (2 ^ 30) a.least) net.arcs
  leasts = (shared_network_is_one g points net s.sound s.are s.network).leasts

  latencies_are : sum_by (λ (l : Link). l.latency) links ≡ sum_by (λ (x : Port). latency_at g x.uid.0) (values g)
  latencies_are = sum_by_map (λ (l : Link). l.latency) (mirror_link g points) (values g)

  -- the weight less the latencies is the sum of the lines
  pub bound_of : (sum : ℕ) → sum ≡ sum_by (delay_of solved.potential) links → (weighted (λ a. a.least) net.arcs solved.flow -ℤ pos (sum_by (λ (l : Link). l.latency) links)) ≡ pos sum
  bound_of sum summed =
      (λ i. weighted (λ a. a.least) net.arcs solved.flow -ℤ pos (latencies_are i))
      ∙ sym (bound_is g points net solved s) ∙ sym (total_is g points net solved s)
      ∙ ap pos (sym total_at ∙ sym (sum_shared g (position_in at)) ∙ ap (sum_by (λ (l : LineOf). l.delay)) (sym lines_are) ∙ sym held_is ∙ sym summed)

  -- ---- all of it
  pub is_aligned_shared : (sum bound : ℕ) → sum ≡ sum_by (λ (l : LineOf). l.delay) (map line_left (values g)) → bound ≡ sum
      → IsAlignedShared g at (map line_left (values g)) sum (carried g points net solved s) bound
  is_aligned_shared sum bound is same =
      let total : sum ≡ shared_total g (position_in at) = is ∙ ap (sum_by (λ (l : LineOf). l.delay)) lines_are ∙ sum_shared g (position_in at) in
      record {
        nodes = live_nodes_are g points s.sound s.are nodes_at as_many;
        best = best_of_at;
        lines = lines_are;
        total = total;
        listed = listed g points net solved s;
        flow = is_flow g points net solved s;
        bound_is = sym (total_is g points net solved s) ∙ ap pos (sym total_at ∙ sym total ∙ sym same);
        least = same;
      }

  -- the same of what is equal to it
  pub is_aligned_shared_as : (xs : List Value) → map port xs ≡ values g → (places : List At) (ls : List LineOf) (sum : ℕ) (units : List PointUnits) (bound : ℕ)
      → places ≡ at → ls ≡ map (line_of_link xs solved.potential) links → sum ≡ sum_by (delay_of solved.potential) links → units ≡ carried g points net solved s → bound ≡ sum
      → IsAlignedShared g places ls sum units bound
  is_aligned_shared_as xs is places ls sum units bound placed lined summed listed same =
      rw (placed, lined ∙ lines_left xs is, listed) (is_aligned_shared sum bound (summed ∙ held_is) same)

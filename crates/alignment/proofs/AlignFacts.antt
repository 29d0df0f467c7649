-- What is made of a solved network is the best alignment, with a flow that shows it.
use Rattle.std.proofs.Common.{◌≡◌, ℕ, ◌<◌, ◌≤◌, ◌^◌, ℤ, pos, ◌+ℤ◌, ◌-ℤ◌, ◌≤ℤ◌, List, length, map, drop, get_or, slice_index, refl, sym, ap, subst, ◌∙◌, arith, inl, inr, true, sum_by}
use Rattle.std.specs.List.{All, Contains}
use Rattle.std.proofs.lemmas.Bool.{eqb-true}
use Rattle.std.proofs.lemmas.Int.{ints}
use Rattle.std.proofs.lemmas.List.{get_or_default}
use Rattle.std.proofs.lemmas.List.Elements.{All-from_recursion}
use Rattle.std.proofs.lemmas.List.Kept.{AllPairs-from_increasing}
use Rattle.graph_model.specs.Answers.{delay}
use Rattle.graph_model.specs.Graphs.{latency_at, output_name}
use Rattle.graph_model.specs.Paths.{IsLive, is_live, live_connections, depth, latency_of_graph}
use Rattle.graph_model.specs.declared.graph.Connection.{Connection}
use Rattle.graph_model.specs.declared.graph.Graph.{Graph}
use Rattle.graph_model.proofs.LiveLaws.{ends_live}
use Rattle.graph_model.proofs.NodeFacts.{output_is_node}
use Rattle.graph_model.proofs.PathLaws.{same_name}
use Rattle.graph_model.proofs.RankLaws.{sound_is_ranked}
use Rattle.graph_model.proofs.ReachLaws.{filter_has}
use Rattle.topology.proofs.LinkFacts.{connection_at}
use Rattle.shortest_paths.specs.Walks.{number_of, IsWithin}
use Rattle.min_cost_flow.specs.Flow.{MeetsNeeds}
use Rattle.min_cost_flow.specs.Laws.{weighted}
use Rattle.min_cost_flow.specs.declared.network.Arc.{Arc}
use Rattle.min_cost_flow.specs.declared.network.Network.{Network}
use Rattle.min_cost_flow.specs.declared.network.Solved.{Solved}
use Rattle.plan_model.specs.Alignments.{IsAlignment, IsBestAlignment, position_in, lines, total}
use Rattle.plan_model.specs.Certified.{AreArcs}
use Rattle.plan_model.specs.Duality.{rooted, IsTightAt}
use Rattle.plan_model.specs.Flows.{IsPoint, IsFlow, IsBeforeArc, network, need_of_point, flow_bound, terms}
use Rattle.plan_model.specs.Networks.{Difference}
use Rattle.plan_model.specs.Pairs.{ComesBefore}
use Rattle.plan_model.specs.Results.{IsAligned}
use Rattle.plan_model.specs.declared.alignment.At.{At}
use Rattle.plan_model.specs.declared.alignment.LineAt.{LineAt}
use Rattle.plan_model.specs.declared.flow.Units.{Units}
use Rattle.plan_model.proofs.CertifiedLaws.{sum_lines}
use Rattle.plan_model.proofs.DualityLaws.{Keeps, rooted_at, keeps_all, tight_is_optimum_law, least_of_optima_law}
use Rattle.plan_model.proofs.LatencyLaws.{few_frames_late}
use Rattle.plan_model.proofs.NetworkLaws.{sum_by_map}
use Rattle.alignment.specs.Carried.{unit_entry, carried_by}
use Rattle.alignment.specs.Links.{links_of, link_of}
use Rattle.alignment.specs.Networks.{IsNetworkOf, number_in}
use Rattle.alignment.specs.Numbered.{AreNames}
use Rattle.alignment.specs.Places.{ArePositions, IsTimely, places_of, delay_of, line_of}
use Rattle.alignment.specs.declared.links.Link.{Link}
use Rattle.alignment.proofs.ArcFacts.{arc_found}
use Rattle.alignment.proofs.LinkFacts.{all_links, all_links_map, live_link}
use Rattle.alignment.proofs.NetworkFacts.{network_is_one}
use Rattle.alignment.proofs.NumberedLaws as numbered
use Rattle.alignment.proofs.NumberedLaws.{from_zero_is}
use Rattle.alignment.proofs.PlaceListFacts.{are_named, stands_at, number_at, links_few, lines_same}
use Rattle.alignment.proofs.PointFacts.{live_nodes_are, live_position}
use Rattle.alignment.proofs.SolutionFacts.{IsSolutionOf}
use Rattle.alignment.proofs.ValueFacts.{live_is_named, value_after, point_within, rooted_is, is_alignment, ends_at_latency}

unit_made : (u v n : ℕ) → ((unit_entry u v n).tail ≡ u) × ((unit_entry u v n).head ≡ v) × ((unit_entry u v n).units ≡ n)
unit_made u v n = (refl, refl, refl)

module _ (g : Graph) (points : List ℕ) (net : Network) (solved : Solved) (s : IsSolutionOf IsNetworkOf g points net solved) where
  abbrev latency : ℕ
  latency = latency_of_graph g

  abbrev carried : List Units
  carried = carried_by points net.arcs solved.flow

  -- the potential of a point, by its name
  abbrev value : ℕ → ℤ
  value v = number_of solved.potential (number_in points v)

  -- the nodes at their potentials, and their positions
  abbrev at : List At
  at = places_of (drop 1 points) (drop 1 solved.potential)

  abbrev p : ℕ → ℕ
  p = position_in at

  abbrev delays : List LineAt
  delays = map (line_of solved.potential) (links_of g points)

  named : AreNames (terms g) 0 points
  named = are_named g points s.are

  each : length solved.potential ≡ length points
  each = s.each ∙ s.network.numbered

  -- ---- the potentials
  rises : (d : Difference ℕ) → Contains (network g latency) d → d.least ≤ℤ (value d.head -ℤ value d.tail)
  rises d has = numbered.rises_by (terms g) eqb-true same_name unit_entry unit_made 0 points named (network g latency) net.arcs s.network.arcs.are (arc_found g s.sound) solved.flow solved.potential s.tight d has

  root_value : value 0 ≡ pos 0
  root_value = numbered.root_at (terms g) eqb-true same_name unit_entry unit_made 0 points named (network g latency) net.arcs s.network.arcs.are (arc_found g s.sound) solved.flow solved.potential s.root

  -- that of a point is from 0 to the latency
  within : (v : ℕ) → IsPoint g v → (pos 0 ≤ℤ value v) × (value v ≤ℤ pos latency)
  within v point = point_within g s.sound value root_value rises v point

  -- along a live connection it rises by the latency of its source
  after : (c : Connection) → Contains (live_connections g) c → (value c.src.0 +ℤ pos (latency_at g c.src.0)) ≤ℤ value c.dst.0
  after c has = value_after g s.sound value root_value rises c has

  -- the position of a live node is its potential
  position_of : (v : ℕ) → IsLive g v → pos (p v) ≡ value v
  position_of v live = ap pos (live_position g points s.sound s.are solved.potential each v live) ∙ from_zero_is (value v) (within v (inr live)).0

  -- what stands at a place has the potential of the place
  value_at : (k : ℕ) → k < length points → value (slice_index points k) ≡ number_of solved.potential k
  value_at k lt = ap (number_of solved.potential) (number_at g points s.are k lt)

  at_name : (k : ℕ) → k < length points → pos (rooted p (slice_index points k)) ≡ number_of solved.potential k
  at_name k lt = rooted_is g s.sound value root_value rises p position_of (slice_index points k) (s.are.each k 0 lt) ∙ value_at k lt

  -- the potentials are positions
  pub positions : ArePositions solved.potential
  positions = λ k d lt.
      let below : k < length points = omega (arith, each) in
      let w = within (slice_index points k) (s.are.each k 0 below) in
      let e = value_at k below in
      let few = few_frames_late g s.sound in
      let same : get_or solved.potential k d ≡ number_of solved.potential k = get_or_default solved.potential k d (pos 0) lt in
      (omega (arith, ints), omega (arith, ints))

  -- ---- links
  -- each link's head stands no earlier than its tail and the latency
  pub timely : All (IsTimely solved.potential) (links_of g points)
  timely =
      all_links (IsTimely solved.potential) g points
      (λ j has live.
      let c = connection_at g j in
      let kept = live_link g j has live in
      let ends = ends_live g s.sound c kept in
      record { tail = below c.src.0 (inr ends.0); head = below c.dst.0 (inr ends.1); after = after c kept })
    where
      below : (v : ℕ) → IsPoint g v → number_in points v < length solved.potential
      below v point = let b = stands_at g points v (s.are.all v point) in let l = b.0 in let e = each in omega arith

  pub few_links : length (links_of g points) ≤ 2 ^ 13
  few_links = let few = links_few g points 0 g.connections in let fits = s.sound.fits.1 in omega arith

  -- the delay of a link is that of its connection
  delay_is : (j : ℕ) (c : Connection) → Contains g.connections c → is_live g c.dst.0 ≡ true → (line_of solved.potential (link_of g points j c)).delay ≡ delay g p c
  delay_is j c has is =
      let kept = filter_has (λ d. is_live g d.dst.0) g.connections c has is in
      let ends = ends_live g s.sound c kept in
      let u = position_of c.src.0 ends.0 in
      let v = position_of c.dst.0 ends.1 in
      let a = after c kept in
      let z = from_zero_is (value c.dst.0 -ℤ (value c.src.0 +ℤ pos (latency_at g c.src.0))) (omega (arith, ints)) in
      omega (arith, ints)

  -- the lines of the links are those of the positions, and their sum is the total
  lines_are : delays ≡ lines g p
  lines_are = lines_same g points solved.potential p 0 g.connections delay_is

  total_is : sum_by (delay_of solved.potential) (links_of g points) ≡ total g p
  total_is = sym (sum_by_map (λ (l : LineAt). l.delay) (line_of solved.potential) (links_of g points)) ∙ ap (sum_by (λ (l : LineAt). l.delay)) lines_are ∙ sum_lines g p 0 g.connections

  -- ---- the flow
  -- names come in the order of numbers
  before : (a b : Arc) → b.tail < length points → b.head < length points → ComesBefore (a.tail, a.head) (b.tail, b.head) → (m n : ℕ)
      → IsBeforeArc (unit_entry (slice_index points a.tail) (slice_index points a.head) m) (unit_entry (slice_index points b.tail) (slice_index points b.head) n)
  before a b t h (inl less) m n = inl (AllPairs-from_increasing points s.are.rising a.tail b.tail 0 less t)
  before a b t h (inr both) m n = inr (ap (slice_index points) both.0, AllPairs-from_increasing points s.are.rising a.head b.head 0 both.1 h)

  listed : AreArcs g latency carried
  listed = record {
    each = numbered.on_arcs (terms g) eqb-true same_name unit_entry unit_made 0 points named (network g latency) net.arcs s.network.arcs.are (arc_found g s.sound) solved.flow;
    ascending = numbered.entries_pairs (terms g) eqb-true same_name unit_entry unit_made 0 points IsBeforeArc net.arcs solved.flow (λ i j d less l.
        let ends = s.network.arcs.are.ends j d l in
        before (get_or net.arcs i d) (get_or net.arcs j d) ends.0 ends.1 (s.network.arcs.rising i j d less l));
  }

  met : MeetsNeeds (length points) net.arcs (map (need_of_point g) points) solved.flow
  met v lt = let below : v < net.points = subst (λ n. v < n) (sym s.network.numbered) lt in s.meets v below ∙ ap (λ xs. number_of xs v) s.network.need

  is_flow : IsFlow g latency carried
  is_flow = record {
    arcs = λ k d l. (listed.each k d l).0;
    needs = λ v point.
        numbered.meets_at (terms g) eqb-true same_name unit_entry unit_made 0 points named (network g latency) net.arcs s.network.arcs.are (arc_found g s.sound) solved.flow
        (need_of_point g) met v (s.are.all v point);
  }

  -- its bound is its weight less the latencies of the links
  latencies_are : sum_by (λ (l : Link). l.latency) (links_of g points) ≡ sum_by (λ (c : Connection). latency_at g c.src.0) (live_connections g)
  latencies_are =
      sym (sum_by_map (λ n. n) (λ (l : Link). l.latency) (links_of g points))
      ∙ ap (sum_by (λ n. n)) (all_links_map (λ (l : Link). l.latency) (λ (c : Connection). latency_at g c.src.0) g points (λ j has live. refl))
      ∙ sum_by_map (λ n. n) (λ (c : Connection). latency_at g c.src.0) (live_connections g)

  weight_is : flow_bound g latency carried ≡ weighted (λ a. a.least) net.arcs solved.flow -ℤ pos (sum_by (λ (l : Link). l.latency) (links_of g points))
  weight_is =
      let weight = numbered.weight_is (terms g) eqb-true same_name unit_entry unit_made 0 points named (network g latency) net.arcs s.network.arcs.are (arc_found g s.sound) solved.flow in
      let sum = latencies_are in
      λ i. weight i -ℤ pos (sym sum i)

  -- ---- the best
  aligned : IsAlignment g p
  aligned = is_alignment g s.sound value root_value rises p position_of

  at_latency : p (output_name g) ≡ latency
  at_latency = ends_at_latency g s.sound value root_value rises p position_of

  -- the alignment is tight wherever the flow has units, so that its total is the bound
  tight_at : All (IsTightAt g latency p) carried
  tight_at =
      numbered.tight_at (terms g) eqb-true same_name unit_entry unit_made 0 points named (network g latency) net.arcs s.network.arcs.are (arc_found g s.sound) solved.flow
      solved.potential s.tight s.root (rooted p) at_name

  optimal : flow_bound g latency carried ≡ pos (total g p)
  optimal = sym (tight_is_optimum_law g latency carried p s.sound is_flow aligned at_latency tight_at)

  best : IsBestAlignment g p
  best =
      least_of_optima_law g carried p s.sound is_flow aligned at_latency tight_at
      (λ q al end on v live.
      let keeps = All-from_recursion (Keeps q) (network g latency) (keeps_all g (depth g) s.sound (sound_is_ranked g s.sound) latency q al end (output_is_node g s.sound)) in
      let least = numbered.at_least (terms g) eqb-true same_name unit_entry unit_made 0 points named (network g latency) net.arcs s.network.arcs.are (arc_found g s.sound) solved.flow
      solved.potential s.tight s.root (rooted p) at_name
      (λ qs zero_at tight k lt. s.least qs zero_at tight k (subst (λ n. k < n) (sym s.network.numbered) lt))
      (rooted q) refl keeps on v (s.are.all v (inr live)) in
      let name = live_is_named g s.sound v live in
      let a = rooted_at p v name in
      let b = rooted_at q v name in
      omega arith)

  -- ---- all of it
  pub leasts : All (λ a. IsWithin (2 ^ 30) a.least) net.arcs
  leasts = (network_is_one g points net s.sound s.are s.network).leasts

  -- the weight less the latencies is the sum of the delays
  pub bound_is : (sum : ℕ) → sum ≡ sum_by (delay_of solved.potential) (links_of g points) → (weighted (λ a. a.least) net.arcs solved.flow -ℤ pos (sum_by (λ (l : Link). l.latency) (links_of g points))) ≡ pos sum
  bound_is sum is = sym weight_is ∙ optimal ∙ ap pos (sym total_is ∙ sym is)

  is_aligned : (sum bound : ℕ) → sum ≡ sum_by (delay_of solved.potential) (links_of g points) → bound ≡ sum → IsAligned g at delays sum carried bound
  is_aligned sum bound is same =
      let total_same : sum ≡ total g p = is ∙ total_is in
      record {
        nodes = live_nodes_are g points s.sound s.are solved.potential each;
        best = best;
        lines = lines_are;
        total = total_same;
        listed = listed;
        flow = is_flow;
        bound_is = optimal ∙ ap pos (sym total_same ∙ sym same);
        least = same;
      }

  -- the same of what is equal to it
  pub is_aligned_as : (places : List At) (ls : List LineAt) (sum : ℕ) (units : List Units) (bound : ℕ)
      → places ≡ at → ls ≡ delays → sum ≡ sum_by (delay_of solved.potential) (links_of g points) → units ≡ carried → bound ≡ sum → IsAligned g places ls sum units bound
  is_aligned_as places ls sum units bound placed lined summed carries same =
      rw (placed, lined, carries) (is_aligned sum bound summed same)

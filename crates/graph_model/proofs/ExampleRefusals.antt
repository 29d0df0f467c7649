-- What the definitions refuse: a false instance of each.
use Rattle.std.proofs.Common.{◌≡◌, ◌≢◌, ℕ, ◌<◌, ◌≤◌, List, [], ◌∷◌, map, true, false, pos, negsuc, refl, sym, ap, ◌∙◌, arith, Some, None, ◌==◌}
use Rattle.std.specs.Prelude.{unsigned_abs}
use Rattle.graph_model.specs.Histories.{sample, IsQuietRule}
use Rattle.graph_model.specs.Kept.{Kept, kept, StandsFor}
use Rattle.graph_model.specs.Members.{bad_member}
use Rattle.graph_model.specs.Graphs.{IsRanked}
use Rattle.graph_model.specs.Paths.{IsPathTo, is_live, leads, IsReach, reach, reach_within, IsAcyclic}
use Rattle.graph_model.specs.Checks.{IsConnection, IsClosedWalk}
use Rattle.graph_model.specs.Answers.{answer, answer_at, out_within}
use Rattle.graph_model.specs.Bounds.{bounds, bounds_within}
use Rattle.graph_model.specs.Sound.{IsSound}
use Rattle.graph_model.specs.declared.member.Member.TheVariants as member
use Rattle.graph_model.specs.declared.kind.Kind.TheVariants.{Input, Output, Gain, Mixer, Fir, Biquad, Limiter, Delay, Insert}
use Rattle.graph_model.specs.declared.graph.Uid.{Uid}
use Rattle.graph_model.specs.declared.graph.Connection.{Connection}
use Rattle.graph_model.specs.declared.graph.Graph.{Graph}
use Rattle.graph_model.proofs.PathLaws.{same_name}
use Rattle.graph_model.proofs.Examples.{node, joined, mono, one_node, beside_insert, crossing, fan_out}

other_number : (m n : ℕ) → (m == n) ≡ false → m ≡ n → ⊥
other_number m n differ e = let same : (m == n) ≡ true = ap (λ k. k == n) e ∙ same_name n in absurd (cc)

-- ---- answers
-- the straight connection waits for the insert: nothing comes out at once
not_at_once :
    answer beside_insert (mono (pos 1000 ∷ pos 0 ∷ pos 0 ∷ pos 0 ∷ pos 0 ∷ pos 0 ∷ []))
    ≢ mono (pos 1000 ∷ pos 0 ∷ pos 0 ∷ pos 0 ∷ pos 0 ∷ pos 1000 ∷ [])
unfolding beside_insert reach_within out_within
not_at_once e = other_number 2000 1000 refl (ap (λ h. unsigned_abs (sample h 0 0)) e)

-- that is what comes out where all nodes stand at position 0, and not at their reach
at_position_zero :
    answer_at beside_insert (λ v. 0) (mono (pos 1000 ∷ pos 0 ∷ pos 0 ∷ pos 0 ∷ pos 0 ∷ pos 0 ∷ []))
    ≡ mono (pos 1000 ∷ pos 0 ∷ pos 0 ∷ pos 0 ∷ pos 0 ∷ pos 1000 ∷ [])
unfolding beside_insert reach_within out_within
at_position_zero = refl

-- the limiter's last sample is 37.5 and no more
not_rounded_down :
    answer (one_node (Limiter 1 6553600 1)) (mono (pos 13107200 ∷ pos 3276800 ∷ pos 0 ∷ [])) ≢ mono (pos 0 ∷ pos 6553600 ∷ pos 2424832 ∷ [])
unfolding reach_within out_within
not_rounded_down e = other_number 2457600 2424832 refl (ap (λ h. unsigned_abs (sample h 0 0)) e)

-- the biquad feeds back what it has clamped: 70000 unclamped would give 35000 next
not_fed_back_unclamped :
    answer (one_node (Biquad 1 (pos 2) (pos 0) (pos 0) (negsuc 0) (pos 0) 1 16)) (mono (pos 70000 ∷ pos 0 ∷ [])) ≢ mono (pos 65535 ∷ pos 35000 ∷ [])
unfolding reach_within out_within
not_fed_back_unclamped e = other_number 32768 35000 refl (ap (λ h. unsigned_abs (sample h 0 0)) e)

not_straight_through : answer crossing ((pos 1 ∷ pos 2 ∷ []) ∷ []) ≢ (pos 1 ∷ pos 2 ∷ []) ∷ []
unfolding crossing reach_within out_within
not_straight_through e = other_number 2 1 refl (ap (λ h. unsigned_abs (sample h 0 0)) e)

-- a filter keeps as many samples as it has taps, a delay as many as it holds back
filter_keeps : (kept (Fir 1 (pos 1 ∷ pos 2 ∷ pos 1 ∷ []) 0 1) (mono (pos 7 ∷ pos 8 ∷ pos 9 ∷ pos 4 ∷ []))).ins ≡ (pos 4 ∷ pos 9 ∷ pos 8 ∷ []) ∷ []
filter_keeps = refl

delay_keeps : (kept (Delay 1 2) (mono (pos 7 ∷ []))).ins ≡ (pos 7 ∷ pos 0 ∷ []) ∷ []
delay_keeps = refl

not_the_oldest : (k : Kept) → k.ins ≡ (pos 7 ∷ []) ∷ [] → StandsFor (Delay 1 1) k (mono (pos 7 ∷ pos 8 ∷ [])) → ⊥
not_the_oldest k is stands = let e : (pos 7 ∷ []) ∷ [] ≡ (pos 8 ∷ []) ∷ [] = sym is ∙ ap (λ s. s.ins) stands in absurd (cc)

-- a rule that gives 1 for silence is not quiet
never_quiet : IsQuietRule 1 1 (λ h. pos 1 ∷ []) → ⊥
never_quiet q = let e : pos 1 ∷ [] ≡ pos 0 ∷ [] = q.nothing in absurd (cc)

-- ---- paths, live nodes, reach
-- a node that leads nowhere, and one that is not there
unfoldable idle : Graph
idle = record {
  nodes = node 1 (Input 1) ∷ node 2 (Output 1) ∷ node 3 (Insert 1 5) ∷ [];
  connections = joined 1 0 2 0 ∷ joined 1 0 3 0 ∷ [];
}

idle_test : map (is_live idle) (1 ∷ 2 ∷ 3 ∷ 9 ∷ []) ≡ true ∷ true ∷ false ∷ false ∷ []
unfolding idle leads
idle_test = refl

idle_reach : map (reach idle) (1 ∷ 2 ∷ 3 ∷ []) ≡ 0 ∷ 0 ∷ 0 ∷ []
unfolding idle reach_within
idle_reach = refl

-- the reach is the sum of the longest path, over the insert, and not of the straight one
over_insert : IsPathTo beside_insert 2 (3 ∷ 1 ∷ [])
unfolding beside_insert
over_insert = (refl, (joined 3 0 2 0, (1, omega arith, refl), refl, refl), (refl, (joined 1 0 3 0, (0, omega arith, refl), refl, refl), refl))

not_the_shortest : IsReach beside_insert 2 0 → ⊥
unfolding beside_insert
not_the_shortest r = let l : 5 ≤ 0 = r.most (3 ∷ 1 ∷ []) over_insert in absurd (omega arith)

no_path_to_nobody : (us : List ℕ) → IsPathTo beside_insert 9 us → ⊥
unfolding beside_insert
no_path_to_nobody [] p = absurd (cc p)
no_path_to_nobody (u ∷ us) p = absurd (cc (p.0))

-- ---- cycles
unfoldable circle : Graph
circle = record {
  nodes = node 1 (Input 1) ∷ node 2 (Output 1) ∷ node 3 (Gain 1 (pos 65536)) ∷ node 4 (Gain 1 (pos 65536)) ∷ [];
  connections = joined 3 0 4 0 ∷ joined 4 0 3 0 ∷ [];
}

closed : IsClosedWalk circle (0 ∷ 1 ∷ [])
unfolding circle
closed = (omega arith, (record { 0 = 3 }, (joined 3 0 4 0, refl, refl, (joined 4 0 3 0, refl, refl, refl))))

not_closed : IsClosedWalk circle (0 ∷ []) → ⊥
unfolding circle
not_closed w = let c = w.1.1 in let e : joined 3 0 4 0 ≡ c.0 = let s : Some (joined 3 0 4 0) ≡ Some c.0 = c.1 in cc in
    let out : 3 ≡ (w.1.0).0 = ap (λ d. d.src.0) e ∙ ap (λ (u : Uid). u.0) c.2 in
    let into : 4 ≡ (w.1.0).0 = ap (λ d. d.dst.0) e ∙ ap (λ (u : Uid). u.0) c.3 in
    absurd (omega arith)

no_walk_at_all : IsClosedWalk circle [] → ⊥
no_walk_at_all w = let l = w.0 in absurd (omega arith)

round_trip : IsPathTo circle 3 (4 ∷ 3 ∷ [])
unfolding circle
round_trip = (refl, (joined 4 0 3 0, (1, omega arith, refl), refl, refl), (refl, (joined 3 0 4 0, (0, omega arith, refl), refl, refl), refl))

not_acyclic : IsAcyclic circle → ⊥
not_acyclic a = a 3 (4 ∷ []) round_trip

not_ranked : (rank : ℕ → ℕ) → IsRanked rank circle → ⊥
unfolding circle
not_ranked rank r =
    let there : rank 3 < rank 4 = r.rises 0 (joined 3 0 4 0) (omega arith) in
    let back : rank 4 < rank 3 = r.rises 1 (joined 4 0 3 0) (omega arith) in
    absurd (omega arith)

-- ---- connections
not_to_itself : (before : List Connection) → IsConnection fan_out before (joined 3 0 3 0) → ⊥
not_to_itself before c = c.nodes_differ refl

not_to_nobody : (before : List Connection) → IsConnection fan_out before (joined 1 0 9 0) → ⊥
unfolding fan_out
not_to_nobody before c = absurd (cc (c.destination_exists))

not_out_of_range : (before : List Connection) → IsConnection fan_out before (joined 1 1 2 0) → ⊥
unfolding fan_out
not_out_of_range before c = let l : 1 < 1 = c.source_channel in absurd (omega arith)

not_twice : IsConnection fan_out (joined 1 0 3 0 ∷ []) (joined 1 0 3 0) → ⊥
not_twice c = c.new (0, omega arith, refl)

-- ---- ranges
first_bad_members :
    map bad_member (node 0 (Gain 33 (pos 0)) ∷ node 1 (Gain 33 (pos 2000000)) ∷ node 1 (Gain 32 (negsuc 1048576)) ∷ node 1 (Gain 32 (negsuc 1048575))
    ∷ node 1 (Mixer 2 1 (pos 0 ∷ [])) ∷ node 1 (Fir 1 (pos 1 ∷ []) 0 1) ∷ node 1 (Biquad 1 (pos 0) (pos 0) (pos 0) (pos 0) (negsuc 2147483647) 1 16) ∷ [])
    ≡ Some member.Uid ∷ Some member.Channels ∷ Some member.Gain ∷ None ∷ Some member.Gains ∷ Some member.Latency ∷ Some member.A2 ∷ []
first_bad_members = refl

-- ---- sound graphs
unfoldable two_inputs : Graph
two_inputs = record { nodes = node 1 (Input 1) ∷ node 2 (Output 1) ∷ node 3 (Input 1) ∷ []; connections = [] }

not_two_inputs : IsSound two_inputs → ⊥
unfolding two_inputs
not_two_inputs s = other_number 2 1 refl s.shaped.ends.0

not_in_a_circle : IsSound circle → ⊥
not_in_a_circle s = not_acyclic s.shaped.acyclic

-- four gains of 16 in a row pass the headroom
unfoldable loud : Graph
loud = record {
  nodes = node 1 (Input 1) ∷ node 2 (Output 1) ∷ node 3 (Gain 1 (pos 1048576)) ∷ node 4 (Gain 1 (pos 1048576))
      ∷ node 5 (Gain 1 (pos 1048576)) ∷ node 6 (Gain 1 (pos 1048576)) ∷ [];
  connections = joined 1 0 3 0 ∷ joined 3 0 4 0 ∷ joined 4 0 5 0 ∷ joined 5 0 6 0 ∷ joined 6 0 2 0 ∷ [];
}

loud_bounds : (bounds loud 5 ≡ record { ins = 549755813888 ∷ []; outs = 8796093022208 ∷ [] }) × (bounds loud 6 ≡ record { ins = 8796093022208 ∷ []; outs = 140737488355328 ∷ [] })
unfolding loud bounds_within
loud_bounds = (refl, refl)

not_loud : IsSound loud → ⊥
unfolding loud bounds_within
not_loud s = let b = s.headroom 5 (node 6 (Gain 1 (pos 1048576))) (omega arith) in let l : 140737488355328 ≤ 70368744177664 = b.1 0 0 (omega arith) in absurd (omega arith)

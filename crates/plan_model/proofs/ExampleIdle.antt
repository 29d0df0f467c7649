-- A graph with two nodes that lead nowhere: schedules, and the place of a connection among all of them.
use Rattle.std.proofs.Common.{◌≡◌, ℕ, zero, suc, ◌<◌, ◌≤◌, ◌==◌, true, false, List, [], ◌∷◌, length, map, pos, get_or, refl, ap, ◌∙◌, subst, arith}
use Rattle.std.specs.List.{All, Contains, filter, position_or_len}
use Rattle.std.proofs.lemmas.List.Elements.{All-contains, All-from_recursion}
use Rattle.std.proofs.lemmas.List.Sorted.{Contains-permutation, IsPermutation-sym}
use Rattle.graph_model.specs.Graphs.{IsNode, IsRanked, input_name}
use Rattle.graph_model.specs.Orders.{StandsBefore, IsNext, IsOrder}
use Rattle.graph_model.specs.Paths.{leads, is_live, IsLive, live_nodes}
use Rattle.graph_model.proofs.Examples.{node, joined}
use Rattle.graph_model.proofs.PathLaws.{live_by_test}
use Rattle.graph_model.proofs.RankLaws.{node_in}
use Rattle.graph_model.specs.declared.kind.Kind.TheVariants.{Input, Output, Gain, Insert}
use Rattle.graph_model.specs.declared.graph.Connection.{Connection}
use Rattle.graph_model.specs.declared.graph.Graph.{Graph}
use Rattle.plan_model.specs.Alignments.{IsAfter, position_in}
use Rattle.plan_model.specs.Places.{IsNo, IsTimely}
use Rattle.plan_model.specs.Rules.{AreLiveNodes}
use Rattle.plan_model.specs.Schedules.{IsOneByOne, IsSchedule}
use Rattle.plan_model.specs.declared.plan.Plan.{Plan}
use Rattle.plan_model.specs.declared.rule.Rule.TheVariants.{Alignment}
use Rattle.plan_model.specs.declared.schedule.Wave.{Wave}
use Rattle.plan_model.proofs.Examples.{stands, wave}
use Rattle.plan_model.proofs.ExampleOrders.{next_by_test}
use Rattle.plan_model.proofs.ExamplePlan.{plan}
use Rattle.plan_model.proofs.ExampleRules.{earlier, first_bad}
use Rattle.plan_model.proofs.ExampleTools.{rising, names_of, listed, not_among}
use Rattle.graph_model.proofs.OrderOnceLaws.{order_once}

-- two gains in a row that no connection leaves, before an insert and a gain into the output
unfoldable pub with_idle : Graph
with_idle = record {
  nodes = node 1 (Input 1) ∷ node 2 (Output 1) ∷ node 3 (Gain 1 (pos 65536)) ∷ node 6 (Gain 1 (pos 65536)) ∷ node 7 (Insert 1 5) ∷ node 8 (Gain 1 (pos 65536)) ∷ [];
  connections = joined 1 0 3 0 ∷ joined 3 0 6 0 ∷ joined 1 0 7 0 ∷ joined 7 0 8 0 ∷ joined 8 0 2 0 ∷ [];
}

abbrev order : List ℕ
order = 1 ∷ 3 ∷ 6 ∷ 7 ∷ 8 ∷ 2 ∷ []

nexts : (k : ℕ) → k < 6 → IsNext with_idle order k (get_or order k 0)
unfolding with_idle
nexts zero l = next_by_test with_idle order 0 1 (omega arith) refl refl refl refl
nexts (suc zero) l = next_by_test with_idle order 1 3 (omega arith) refl refl refl refl
nexts (suc (suc zero)) l = next_by_test with_idle order 2 6 (omega arith) refl refl refl refl
nexts (suc (suc (suc zero))) l = next_by_test with_idle order 3 7 (omega arith) refl refl refl refl
nexts (suc (suc (suc (suc zero)))) l = next_by_test with_idle order 4 8 (omega arith) refl refl refl refl
nexts (suc (suc (suc (suc (suc zero))))) l = next_by_test with_idle order 5 2 (omega arith) refl refl refl refl
nexts (suc (suc (suc (suc (suc (suc k)))))) l = absurd (omega arith)

stand : All (StandsBefore order 6) (names_of with_idle)
unfolding with_idle
stand = All-from_recursion (StandsBefore order 6) (names_of with_idle)
    ((0, omega arith, refl), ((5, omega arith, refl), ((1, omega arith, refl), ((2, omega arith, refl), ((3, omega arith, refl), ((4, omega arith, refl), tt))))))

ordered : IsOrder with_idle order
ordered = record { all = λ v n. All-contains (StandsBefore order 6) (names_of with_idle) v stand (node_in v with_idle.nodes n); next = nexts }

-- ---- schedules
idle_left_out : IsOneByOne with_idle (wave (1 ∷ []) ∷ wave (7 ∷ []) ∷ wave (8 ∷ []) ∷ wave (2 ∷ []) ∷ [])
unfolding with_idle leads
idle_left_out = (order, ordered, refl)

abbrev every_node : List Wave
every_node = wave (1 ∷ []) ∷ wave (3 ∷ []) ∷ wave (6 ∷ []) ∷ wave (7 ∷ []) ∷ wave (8 ∷ []) ∷ wave (2 ∷ []) ∷ []

live_among : length (map (λ v. v ∷ []) (filter (is_live with_idle) order)) ≡ 4
unfolding with_idle leads
live_among = refl

-- refused: with the nodes that lead nowhere
idle_kept : IsOneByOne with_idle every_node → ⊥
idle_kept (os, is, same) =
    let long : 6 ≡ length (map (λ v. v ∷ []) (filter (is_live with_idle) os)) = ap length same in
    let one = ap (λ vs. length (map (λ v. v ∷ []) (filter (is_live with_idle) vs))) (order_once with_idle os order is ordered) in
    omega (arith, long, one, live_among)

idle_in_a_wave : IsSchedule with_idle every_node → ⊥
unfolding with_idle leads
idle_in_a_wave s =
    not_among (1 ∷ 2 ∷ 7 ∷ 8 ∷ []) 3 refl
    (Contains-permutation (1 ∷ 3 ∷ 6 ∷ 7 ∷ 8 ∷ 2 ∷ []) (live_nodes with_idle) 3 (IsPermutation-sym (live_nodes with_idle) (1 ∷ 3 ∷ 6 ∷ 7 ∷ 8 ∷ 2 ∷ []) s.once) (1, omega arith, refl))

-- ---- which nodes are live
abbrev place : ℕ → ℕ
place v = position_or_len (λ o. o == v) order

ranked : IsRanked place with_idle
unfolding with_idle
ranked = record {
  nodes = All-from_recursion (λ c. IsNode with_idle c.src.0 × IsNode with_idle c.dst.0) with_idle.connections
      ((refl, refl), ((refl, refl), ((refl, refl), ((refl, refl), ((refl, refl), tt)))));
  rises = All-from_recursion (λ c. place c.src.0 < place c.dst.0) with_idle.connections (omega arith, (omega arith, (omega arith, (omega arith, (omega arith, tt)))));
  below = λ v n. All-contains (λ w. place w < 6) (names_of with_idle) v
      (All-from_recursion (λ w. place w < 6) (names_of with_idle) (omega arith, (omega arith, (omega arith, (omega arith, (omega arith, (omega arith, tt)))))))
      (node_in v with_idle.nodes n);
}

live : (v : ℕ) → Contains (2 ∷ 8 ∷ 7 ∷ 1 ∷ []) v → IsLive with_idle v
unfolding with_idle
live v has = (
  8 ∷ 7 ∷ 1 ∷ [],
  (
    refl,
    (joined 8 0 2 0, (4, omega arith, refl), refl, refl),
    (refl, (joined 7 0 8 0, (3, omega arith, refl), refl, refl), (refl, (joined 1 0 7 0, (2, omega arith, refl), refl, refl), refl)),
  ),
  has,
)

abbrev IsKept : ℕ → Type 0
IsKept v = is_live with_idle v ≡ true → Contains (1 ∷ 2 ∷ 7 ∷ 8 ∷ []) v

idle_3 : IsKept 3
unfolding with_idle leads
idle_3 e = absurd (cc)

idle_6 : IsKept 6
unfolding with_idle leads
idle_6 e = absurd (cc)

kept : All IsKept (names_of with_idle)
unfolding with_idle
kept = All-from_recursion IsKept (names_of with_idle)
    ((λ t. (0, omega arith, refl)), ((λ t. (1, omega arith, refl)), (idle_3, (idle_6, ((λ t. (2, omega arith, refl)), ((λ t. (3, omega arith, refl)), tt))))))

live_are : AreLiveNodes with_idle (1 ∷ 2 ∷ 7 ∷ 8 ∷ [])
live_are = record {
  ascending = rising (1 ∷ 2 ∷ 7 ∷ 8 ∷ []) (omega arith, (omega arith, (omega arith, tt)));
  each = All-from_recursion (IsLive with_idle) (1 ∷ 2 ∷ 7 ∷ 8 ∷ [])
      (live 1 (3, omega arith, refl), (live 2 (0, omega arith, refl), (live 7 (2, omega arith, refl), (live 8 (1, omega arith, refl), tt))));
  all = λ v is. All-contains IsKept (names_of with_idle) v kept (listed with_idle v is) (live_by_test with_idle place ranked v is);
}

-- ---- a gain that stands after the output node: the place counts the connections that are not live too
abbrev late_gain : Plan
late_gain = record plan { at = stands 1 0 ∷ stands 2 9 ∷ stands 7 0 ∷ stands 8 10 ∷ [] }

abbrev late : ℕ → ℕ
late v = position_in late_gain.at v

at_start : late (input_name with_idle) ≡ 0
unfolding with_idle
at_start = refl

timely_0 : IsTimely with_idle late 0
unfolding with_idle leads
timely_0 c e is =
    let same : joined 1 0 3 0 ≡ c = cc in
    let not_live : false ≡ true = ap (λ (d : Connection). is_live with_idle d.dst.0) same ∙ is in
    absurd (cc)

timely_1 : IsTimely with_idle late 1
unfolding with_idle leads
timely_1 c e is =
    let same : joined 3 0 6 0 ≡ c = cc in
    let not_live : false ≡ true = ap (λ (d : Connection). is_live with_idle d.dst.0) same ∙ is in
    absurd (cc)

timely_2 : IsTimely with_idle late 2
unfolding with_idle
timely_2 c e is = let same : joined 1 0 7 0 ≡ c = cc in subst (IsAfter with_idle late) same (omega arith)

timely_3 : IsTimely with_idle late 3
unfolding with_idle
timely_3 c e is = let same : joined 7 0 8 0 ≡ c = cc in subst (IsAfter with_idle late) same (omega arith)

too_late : IsTimely with_idle late 4 → ⊥
unfolding with_idle leads
too_late timely = let l : 10 ≤ 9 = timely (joined 8 0 2 0) refl refl in absurd (omega arith)

refused_alignment : IsNo with_idle late_gain Alignment 4
unfolding with_idle leads
refused_alignment = record {
  first = record {
    before = earlier with_idle late_gain Alignment (live_are, ((λ live. at_start), tt));
    fails = λ after. let l : 10 ≤ 9 = after 2 (joined 8 0 2 0) (omega arith) in absurd (omega arith);
  };
  at = first_bad (IsTimely with_idle late) 4 ((((tt, timely_0), timely_1), timely_2), timely_3) too_late;
}

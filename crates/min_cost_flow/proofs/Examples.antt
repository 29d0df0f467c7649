-- The definitions at small networks.
use Rattle.std.proofs.Common.{◌≡◌, ℕ, zero, suc, ◌<◌, ◌^◌, ℤ, pos, negsuc, ◌≤ℤ◌, ◌-ℤ◌, List, [], ◌∷◌, map, Some, slice_get, slice_index, refl, subst, arith}
use Rattle.std.specs.List.{All}
use Rattle.std.proofs.lemmas.Int.{ints}
use Rattle.std.proofs.lemmas.Option.{slice_get_within, get_or_from_slice_get}
use Rattle.shortest_paths.specs.Walks.{Reaches, IsWithin, number_of}
use Rattle.shortest_paths.proofs.WalkLaws.{some_same, edge_at}
use Rattle.min_cost_flow.specs.declared.network.Arc.{Arc}
use Rattle.min_cost_flow.specs.declared.network.Network.{Network}
use Rattle.min_cost_flow.specs.Laws.{weight_of, bound_of, IsOfLeastCost, IsOfLeastBound}
use Rattle.min_cost_flow.specs.Flow.{IsNetwork, IsTight, MeetsNeeds, length_of}
use Rattle.min_cost_flow.proofs.DualityLaws.{tight_is_optimal_law}
use Rattle.min_cost_flow.proofs.NetworkLaws.{no_positive_cycle_from_potentials, connected_by_root}

abbrev pub arc : ℕ → ℕ → ℤ → Arc
arc tail head least = record { tail = tail; head = head; least = least }

-- what a network asks of one arc between `points` points
abbrev IsSmall : ℕ → Arc → Type 0
IsSmall points a = ((a.tail < points) × (a.head < points)) × IsWithin (2 ^ 30) a.least

-- the potential rises along the arc by at least the least difference
abbrev Rises : (ℕ → ℤ) → Arc → Type 0
Rises potential a = a.least ≤ℤ (potential a.head -ℤ potential a.tail)

at_each : (P : Arc → Type 0) (arcs : List Arc) → All P arcs → (k : ℕ) (a : Arc) → slice_get arcs k ≡ Some a → P a
at_each P arcs all k a at = subst P (get_or_from_slice_get arcs k a a at) (all k a (slice_get_within arcs k a at))

-- the walk of one arc
by_arc : (arcs : List Arc) (k : ℕ) (a : Arc) → slice_get (map length_of arcs) k ≡ Some (length_of a) → (u v : ℕ) → a.tail ≡ u → a.head ≡ v → Reaches (map length_of arcs) u v
by_arc arcs k a at u v leaves arrives = (length_of a ∷ [], (edge_at (map length_of arcs) k (length_of a) at, leaves, arrives))

-- ---- three points, and no difference is asked for

abbrev pub level_arcs : List Arc
level_arcs = arc 1 2 (pos 0) ∷ arc 0 1 (pos 0) ∷ arc 0 2 (pos 0) ∷ arc 1 0 (pos 0) ∷ arc 2 0 (pos 0) ∷ []

abbrev pub level_net : Network
level_net = record { points = 3; arcs = level_arcs; need = pos 0 ∷ negsuc 0 ∷ pos 1 ∷ [] }

level_small : All (IsSmall 3) level_arcs
level_small zero d l = ((omega arith, omega arith), (omega (arith, ints), omega (arith, ints)))
level_small (suc zero) d l = ((omega arith, omega arith), (omega (arith, ints), omega (arith, ints)))
level_small (suc (suc zero)) d l = ((omega arith, omega arith), (omega (arith, ints), omega (arith, ints)))
level_small (suc (suc (suc zero))) d l = ((omega arith, omega arith), (omega (arith, ints), omega (arith, ints)))
level_small (suc (suc (suc (suc zero)))) d l = ((omega arith, omega arith), (omega (arith, ints), omega (arith, ints)))
level_small (suc (suc (suc (suc (suc k))))) d l = absurd (omega arith)

level_needs : All (IsWithin (2 ^ 14)) level_net.need
level_needs zero x l = (omega (arith, ints), omega (arith, ints))
level_needs (suc zero) x l = (omega (arith, ints), omega (arith, ints))
level_needs (suc (suc zero)) x l = (omega (arith, ints), omega (arith, ints))
level_needs (suc (suc (suc k))) x l = absurd (omega arith)

level_back : (v : ℕ) → v < 3 → Reaches (map length_of level_arcs) v 0
level_back zero l = ([], refl)
level_back (suc zero) l = by_arc level_arcs 3 (arc 1 0 (pos 0)) refl 1 0 refl refl
level_back (suc (suc zero)) l = by_arc level_arcs 4 (arc 2 0 (pos 0)) refl 2 0 refl refl
level_back (suc (suc (suc v))) l = absurd (omega arith)

level_forth : (v : ℕ) → v < 3 → Reaches (map length_of level_arcs) 0 v
level_forth zero l = ([], refl)
level_forth (suc zero) l = by_arc level_arcs 1 (arc 0 1 (pos 0)) refl 0 1 refl refl
level_forth (suc (suc zero)) l = by_arc level_arcs 2 (arc 0 2 (pos 0)) refl 0 2 refl refl
level_forth (suc (suc (suc v))) l = absurd (omega arith)

level_rises : All (Rises (λ _. pos 0)) level_arcs
level_rises zero d l = omega (arith, ints)
level_rises (suc zero) d l = omega (arith, ints)
level_rises (suc (suc zero)) d l = omega (arith, ints)
level_rises (suc (suc (suc zero))) d l = omega (arith, ints)
level_rises (suc (suc (suc (suc zero)))) d l = omega (arith, ints)
level_rises (suc (suc (suc (suc (suc k))))) d l = absurd (omega arith)

pub level_net_is_one : IsNetwork level_net
level_net_is_one = record {
  some_point = omega arith;
  few_points = omega arith;
  few_arcs = omega arith;
  ends = λ k d l. (level_small k d l).0;
  leasts = λ k d l. (level_small k d l).1;
  one_need_each = refl;
  needs = level_needs;
  balanced = refl;
  connected = connected_by_root 3 (map length_of level_arcs) level_back level_forth;
  no_positive_cycle = no_positive_cycle_from_potentials level_arcs (λ _. pos 0) (at_each (Rises (λ _. pos 0)) level_arcs level_rises);
}

-- ---- an insert of 5 frames, node 3, on one of the two ways from node 1 to node 2

abbrev pub insert_arcs : List Arc
insert_arcs =
    arc 1 2 (pos 0) ∷ arc 1 3 (pos 0) ∷ arc 3 2 (pos 5) ∷ arc 0 1 (pos 0) ∷ arc 0 2 (pos 0) ∷ arc 0 3 (pos 0) ∷ arc 1 0 (pos 0) ∷ arc 2 0 (negsuc 4) ∷ []

abbrev pub insert_net : Network
insert_net = record { points = 4; arcs = insert_arcs; need = pos 0 ∷ negsuc 1 ∷ pos 2 ∷ pos 0 ∷ [] }

abbrev pub insert_potential : List ℤ
insert_potential = pos 0 ∷ pos 0 ∷ pos 5 ∷ pos 0 ∷ []

-- two units over the insert
abbrev pub insert_flow : List ℕ
insert_flow = 0 ∷ 2 ∷ 2 ∷ 0 ∷ 0 ∷ 0 ∷ 0 ∷ 0 ∷ []

insert_small : All (IsSmall 4) insert_arcs
insert_small zero d l = ((omega arith, omega arith), (omega (arith, ints), omega (arith, ints)))
insert_small (suc zero) d l = ((omega arith, omega arith), (omega (arith, ints), omega (arith, ints)))
insert_small (suc (suc zero)) d l = ((omega arith, omega arith), (omega (arith, ints), omega (arith, ints)))
insert_small (suc (suc (suc zero))) d l = ((omega arith, omega arith), (omega (arith, ints), omega (arith, ints)))
insert_small (suc (suc (suc (suc zero)))) d l = ((omega arith, omega arith), (omega (arith, ints), omega (arith, ints)))
insert_small (suc (suc (suc (suc (suc zero))))) d l = ((omega arith, omega arith), (omega (arith, ints), omega (arith, ints)))
insert_small (suc (suc (suc (suc (suc (suc zero)))))) d l = ((omega arith, omega arith), (omega (arith, ints), omega (arith, ints)))
insert_small (suc (suc (suc (suc (suc (suc (suc zero))))))) d l = ((omega arith, omega arith), (omega (arith, ints), omega (arith, ints)))
insert_small (suc (suc (suc (suc (suc (suc (suc (suc k)))))))) d l = absurd (omega arith)

insert_needs : All (IsWithin (2 ^ 14)) insert_net.need
insert_needs zero x l = (omega (arith, ints), omega (arith, ints))
insert_needs (suc zero) x l = (omega (arith, ints), omega (arith, ints))
insert_needs (suc (suc zero)) x l = (omega (arith, ints), omega (arith, ints))
insert_needs (suc (suc (suc zero))) x l = (omega (arith, ints), omega (arith, ints))
insert_needs (suc (suc (suc (suc k)))) x l = absurd (omega arith)

insert_back : (v : ℕ) → v < 4 → Reaches (map length_of insert_arcs) v 0
insert_back zero l = ([], refl)
insert_back (suc zero) l = by_arc insert_arcs 6 (arc 1 0 (pos 0)) refl 1 0 refl refl
insert_back (suc (suc zero)) l = by_arc insert_arcs 7 (arc 2 0 (negsuc 4)) refl 2 0 refl refl
insert_back (suc (suc (suc zero))) l = (
  length_of (arc 3 2 (pos 5)) ∷ length_of (arc 2 0 (negsuc 4)) ∷ [],
  (
    edge_at (map length_of insert_arcs) 2 (length_of (arc 3 2 (pos 5))) refl,
    refl,
    (edge_at (map length_of insert_arcs) 7 (length_of (arc 2 0 (negsuc 4))) refl, refl, refl),
  ),
)
insert_back (suc (suc (suc (suc v)))) l = absurd (omega arith)

insert_forth : (v : ℕ) → v < 4 → Reaches (map length_of insert_arcs) 0 v
insert_forth zero l = ([], refl)
insert_forth (suc zero) l = by_arc insert_arcs 3 (arc 0 1 (pos 0)) refl 0 1 refl refl
insert_forth (suc (suc zero)) l = by_arc insert_arcs 4 (arc 0 2 (pos 0)) refl 0 2 refl refl
insert_forth (suc (suc (suc zero))) l = by_arc insert_arcs 5 (arc 0 3 (pos 0)) refl 0 3 refl refl
insert_forth (suc (suc (suc (suc v)))) l = absurd (omega arith)

insert_rises : All (Rises (number_of insert_potential)) insert_arcs
insert_rises zero d l = omega (arith, ints)
insert_rises (suc zero) d l = omega (arith, ints)
insert_rises (suc (suc zero)) d l = omega (arith, ints)
insert_rises (suc (suc (suc zero))) d l = omega (arith, ints)
insert_rises (suc (suc (suc (suc zero)))) d l = omega (arith, ints)
insert_rises (suc (suc (suc (suc (suc zero))))) d l = omega (arith, ints)
insert_rises (suc (suc (suc (suc (suc (suc zero)))))) d l = omega (arith, ints)
insert_rises (suc (suc (suc (suc (suc (suc (suc zero))))))) d l = omega (arith, ints)
insert_rises (suc (suc (suc (suc (suc (suc (suc (suc k)))))))) d l = absurd (omega arith)

pub insert_net_is_one : IsNetwork insert_net
insert_net_is_one = record {
  some_point = omega arith;
  few_points = omega arith;
  few_arcs = omega arith;
  ends = λ k d l. (insert_small k d l).0;
  leasts = λ k d l. (insert_small k d l).1;
  one_need_each = refl;
  needs = insert_needs;
  balanced = refl;
  connected = connected_by_root 4 (map length_of insert_arcs) insert_back insert_forth;
  no_positive_cycle =
      no_positive_cycle_from_potentials insert_arcs (number_of insert_potential) (at_each (Rises (number_of insert_potential)) insert_arcs insert_rises);
}

two_units_meet_the_needs : MeetsNeeds 4 insert_arcs insert_net.need insert_flow
two_units_meet_the_needs zero l = refl
two_units_meet_the_needs (suc zero) l = refl
two_units_meet_the_needs (suc (suc zero)) l = refl
two_units_meet_the_needs (suc (suc (suc zero))) l = refl
two_units_meet_the_needs (suc (suc (suc (suc v)))) l = absurd (omega arith)

insert_no_more : (k : ℕ) (a : Arc) → slice_get insert_arcs k ≡ Some a → 0 < slice_index insert_flow k → (number_of insert_potential a.head -ℤ number_of insert_potential a.tail) ≤ℤ a.least
insert_no_more zero a at some = absurd (omega arith)
insert_no_more (suc zero) a at some =
    subst (λ (x : Arc). (number_of insert_potential x.head -ℤ number_of insert_potential x.tail) ≤ℤ x.least) (some_same (arc 1 3 (pos 0)) a at) (omega (arith, ints))
insert_no_more (suc (suc zero)) a at some =
    subst (λ (x : Arc). (number_of insert_potential x.head -ℤ number_of insert_potential x.tail) ≤ℤ x.least) (some_same (arc 3 2 (pos 5)) a at) (omega (arith, ints))
insert_no_more (suc (suc (suc zero))) a at some = absurd (omega arith)
insert_no_more (suc (suc (suc (suc zero)))) a at some = absurd (omega arith)
insert_no_more (suc (suc (suc (suc (suc zero))))) a at some = absurd (omega arith)
insert_no_more (suc (suc (suc (suc (suc (suc zero)))))) a at some = absurd (omega arith)
insert_no_more (suc (suc (suc (suc (suc (suc (suc zero))))))) a at some = absurd (omega arith)
insert_no_more (suc (suc (suc (suc (suc (suc (suc (suc k)))))))) a at some = absurd (omega arith)

two_units_over_the_insert_are_tight : IsTight insert_arcs insert_flow (number_of insert_potential)
two_units_over_the_insert_are_tight = record {
  rises = at_each (Rises (number_of insert_potential)) insert_arcs insert_rises;
  no_more = insert_no_more;
}

-- level potentials do not wait for the insert
level_potentials_are_refused : (flow : List ℕ) → IsTight insert_arcs flow (λ _. pos 0) → ⊥
level_potentials_are_refused flow h = let le = h.rises 2 (arc 3 2 (pos 5)) refl in omega (arith, ints)

-- nor are units past the insert of least cost
units_past_the_insert_are_refused : IsTight insert_arcs (2 ∷ 0 ∷ 0 ∷ 0 ∷ 0 ∷ 0 ∷ 0 ∷ 0 ∷ []) (number_of insert_potential) → ⊥
units_past_the_insert_are_refused h = let le = h.no_more 0 (arc 1 2 (pos 0)) refl (omega arith) in omega (arith, ints)

-- one unit does not meet a need of two
one_unit_is_too_few : MeetsNeeds 4 insert_arcs insert_net.need (0 ∷ 1 ∷ 1 ∷ 0 ∷ 0 ∷ 0 ∷ 0 ∷ 0 ∷ []) → ⊥
one_unit_is_too_few h = let e = h 2 (omega arith) in omega (arith, ints)

-- ---- weak duality at two units over the insert

-- each of the two units waits for the insert of 5 frames, and the need of two stands at potential 5
the_weight_is_ten : weight_of insert_net insert_flow ≡ pos 10
the_weight_is_ten = refl

the_bound_is_ten : bound_of insert_net (number_of insert_potential) ≡ pos 10
the_bound_is_ten = refl

two_units_over_the_insert_are_optimal : IsOfLeastCost insert_net insert_flow × IsOfLeastBound insert_net (number_of insert_potential)
two_units_over_the_insert_are_optimal =
    tight_is_optimal_law insert_net insert_flow (number_of insert_potential) insert_net_is_one.ends two_units_meet_the_needs two_units_over_the_insert_are_tight

-- units past the insert weigh nothing, and so are not of least cost
units_past_the_insert_are_not_optimal : IsOfLeastCost insert_net (2 ∷ 0 ∷ 0 ∷ 0 ∷ 0 ∷ 0 ∷ 0 ∷ 0 ∷ []) → ⊥
units_past_the_insert_are_not_optimal h = let le = h insert_flow two_units_meet_the_needs in omega (arith, ints)

-- The definitions at small lists of edges.
use Rattle.std.proofs.Common.{ℕ, zero, suc, ◌<◌, ℤ, pos, negsuc, ◌≤ℤ◌, ◌+ℤ◌, List, [], ◌∷◌, Option, Some, None, refl, sym, ap, arith}
use Rattle.std.specs.List.{Contains, All}
use Rattle.std.proofs.lemmas.Int.{ints}
use Rattle.std.proofs.lemmas.List.Elements.{All-contains}
use Rattle.shortest_paths.specs.declared.edges.Edge.{Edge}
use Rattle.shortest_paths.specs.Walks.{IsWalk, Reaches, HasNoNegativeCycle, IsLeastCost, EndsLeast, ClimbsIn, number_of}
use Rattle.shortest_paths.proofs.WalkLaws.{walk_from_potentials, no_cycle_from_potentials, some_same}

abbrev pub edge : ℕ → ℕ → ℤ → Edge
edge tail head cost = record { tail = tail; head = head; cost = cost }

-- no edge gives its head less than its number
abbrev pub Permits : (ℕ → ℤ) → Edge → Type 0
Permits number e = number e.head ≤ℤ (number e.tail +ℤ e.cost)

-- ---- the edge from 0 to 2 costs 0, and the way through 1 costs 2 - 5

abbrev pub three_points : List Edge
three_points = edge 0 1 (pos 2) ∷ edge 1 2 (negsuc 4) ∷ edge 0 2 (pos 0) ∷ []

abbrev pub three_least : List ℤ
three_least = pos 0 ∷ pos 2 ∷ negsuc 2 ∷ []

three_permitted : All (Permits (number_of three_least)) three_points
three_permitted zero d l = omega (arith, ints)
three_permitted (suc zero) d l = omega (arith, ints)
three_permitted (suc (suc zero)) d l = omega (arith, ints)
three_permitted (suc (suc (suc k))) d l = absurd (omega arith)

three_numbers : (e : Edge) → Contains three_points e → Permits (number_of three_least) e
three_numbers e has = All-contains (Permits (number_of three_least)) three_points e three_permitted has

pub three_points_have_no_negative_cycle : HasNoNegativeCycle three_points
three_points_have_no_negative_cycle = no_cycle_from_potentials three_points (number_of three_least) three_numbers

through_one : IsWalk three_points 0 (edge 0 1 (pos 2) ∷ edge 1 2 (negsuc 4) ∷ []) 2
through_one = ((0, omega arith, refl), refl, ((1, omega arith, refl), refl, refl))

pub three_points_are_reached : (v : ℕ) → v < 3 → Reaches three_points 0 v
three_points_are_reached zero l = ([], refl)
three_points_are_reached (suc zero) l = (edge 0 1 (pos 2) ∷ [], ((0, omega arith, refl), refl, refl))
three_points_are_reached (suc (suc zero)) l = (edge 0 1 (pos 2) ∷ edge 1 2 (negsuc 4) ∷ [], through_one)
three_points_are_reached (suc (suc (suc k))) l = absurd (omega arith)

the_start_costs_nothing : IsLeastCost three_points 0 0 (pos 0)
the_start_costs_nothing = record {
  walked = ([], refl, refl);
  none_less = λ walk w. let le = walk_from_potentials three_points (number_of three_least) 0 0 walk three_numbers w in omega (arith, ints);
}

one_costs_its_edge : IsLeastCost three_points 0 1 (pos 2)
one_costs_its_edge = record {
  walked = (edge 0 1 (pos 2) ∷ [], ((0, omega arith, refl), refl, refl), refl);
  none_less = λ walk w. let le = walk_from_potentials three_points (number_of three_least) 0 1 walk three_numbers w in omega (arith, ints);
}

two_costs_the_way_through_one : IsLeastCost three_points 0 2 (negsuc 2)
two_costs_the_way_through_one = record {
  walked = (edge 0 1 (pos 2) ∷ edge 1 2 (negsuc 4) ∷ [], through_one, refl);
  none_less = λ walk w. let le = walk_from_potentials three_points (number_of three_least) 0 2 walk three_numbers w in omega (arith, ints);
}

-- the walk of one edge is not a least walk
the_edge_to_two_is_no_least_walk : IsLeastCost three_points 0 2 (pos 0) → ⊥
the_edge_to_two_is_no_least_walk h =
    let le = h.none_less (edge 0 1 (pos 2) ∷ edge 1 2 (negsuc 4) ∷ []) through_one in omega (arith, ints)

-- nor is there a number that costs less than every walk and is the cost of one
nothing_costs_less : IsLeastCost three_points 0 2 (negsuc 3) → ⊥
nothing_costs_less h =
    let le = walk_from_potentials three_points (number_of three_least) 0 2 h.walked.0 three_numbers h.walked.1 in
    let same = h.walked.2 in
    omega (arith, ints)

the_edge_from_one_ends_a_least_walk : EndsLeast three_points three_least 2 1
the_edge_from_one_ends_a_least_walk = record { edge = edge 1 2 (negsuc 4); at = refl; arrives = refl; adds = refl }

the_edge_from_the_start_ends_none : EndsLeast three_points three_least 2 2 → ⊥
the_edge_from_the_start_ends_none h =
    let is = some_same h.edge (edge 0 2 (pos 0)) (sym h.at) in
    let tail = ap (λ (e : Edge). number_of three_least e.tail) is in
    let cost = ap (λ (e : Edge). e.cost) is in
    let adds = h.adds in
    omega (arith, ints)

abbrev three_last : List (Option ℕ)
three_last = None ∷ Some 0 ∷ Some 1 ∷ []

two_climbs_in_two_steps : ClimbsIn three_points three_last 0 2 2
two_climbs_in_two_steps = (1, edge 1 2 (negsuc 4), refl, refl, (0, edge 0 1 (pos 2), refl, refl, refl))

two_is_not_the_start : ClimbsIn three_points three_last 0 0 2 → ⊥
two_is_not_the_start h = omega arith

-- ---- a cycle of cost 2 - 2, which no tree follows

abbrev pub free_cycle : List Edge
free_cycle = edge 0 1 (pos 4) ∷ edge 0 2 (pos 1) ∷ edge 2 1 (pos 2) ∷ edge 1 2 (negsuc 1) ∷ []

abbrev free_least : List ℤ
free_least = pos 0 ∷ pos 3 ∷ pos 1 ∷ []

free_permitted : All (Permits (number_of free_least)) free_cycle
free_permitted zero d l = omega (arith, ints)
free_permitted (suc zero) d l = omega (arith, ints)
free_permitted (suc (suc zero)) d l = omega (arith, ints)
free_permitted (suc (suc (suc zero))) d l = omega (arith, ints)
free_permitted (suc (suc (suc (suc k)))) d l = absurd (omega arith)

pub free_cycle_is_not_negative : HasNoNegativeCycle free_cycle
free_cycle_is_not_negative =
    no_cycle_from_potentials free_cycle (number_of free_least) (λ e has. All-contains (Permits (number_of free_least)) free_cycle e free_permitted has)

pub free_cycle_is_reached : (v : ℕ) → v < 3 → Reaches free_cycle 0 v
free_cycle_is_reached zero l = ([], refl)
free_cycle_is_reached (suc zero) l = (edge 0 1 (pos 4) ∷ [], ((0, omega arith, refl), refl, refl))
free_cycle_is_reached (suc (suc zero)) l = (edge 0 2 (pos 1) ∷ [], ((1, omega arith, refl), refl, refl))
free_cycle_is_reached (suc (suc (suc k))) l = absurd (omega arith)

-- ---- a cycle of cost 1 - 2 is refused

a_negative_cycle : HasNoNegativeCycle (edge 0 1 (pos 1) ∷ edge 1 0 (negsuc 1) ∷ []) → ⊥
a_negative_cycle h =
    let le = h 0 (edge 0 1 (pos 1) ∷ edge 1 0 (negsuc 1) ∷ []) ((0, omega arith, refl), refl, ((1, omega arith, refl), refl, refl)) in omega (arith, ints)

-- ---- the edge from 0 to 2 costs 9, and the way through 1 costs 2 + 3

abbrev pub two_walks : List Edge
two_walks = edge 0 1 (pos 2) ∷ edge 1 2 (pos 3) ∷ edge 0 2 (pos 9) ∷ []

pub two_walks_are_reached : (v : ℕ) → v < 3 → Reaches two_walks 0 v
two_walks_are_reached zero l = ([], refl)
two_walks_are_reached (suc zero) l = (edge 0 1 (pos 2) ∷ [], ((0, omega arith, refl), refl, refl))
two_walks_are_reached (suc (suc zero)) l = (edge 0 2 (pos 9) ∷ [], ((2, omega arith, refl), refl, refl))
two_walks_are_reached (suc (suc (suc k))) l = absurd (omega arith)

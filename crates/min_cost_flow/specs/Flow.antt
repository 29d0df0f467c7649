-- Flows in a network whose arcs have no capacity, and the potentials that certify them.
--
-- The words are those of Ahuja, Magnanti and Orlin, Network Flows, chapter 9. A point is a node of theirs. A need is
-- minus their supply, a least difference minus their cost, and a potential is theirs, so that the reduced cost of an
-- arc is the difference of the potentials along it less its least difference.
use Rattle.std.specs.Prelude.{◌≡◌, ℕ, ◌+◌, ◌<◌, ◌≤◌, ◌^◌, ◌==◌, ℤ, pos, ◌+ℤ◌, ◌-ℤ◌, ◌≤ℤ◌, List, [], ◌∷◌, length, map, Bool, if◌then◌else◌, slice_get, slice_index, Some}
use Rattle.shortest_paths.specs.declared.edges.Edge.{Edge}
use Rattle.shortest_paths.specs.Walks.{IsWalk, cost_of, number_of, IsWithin, Reaches}
use Rattle.std.specs.List.{All}
use Rattle.min_cost_flow.specs.declared.network.Arc.{Arc}
use Rattle.min_cost_flow.specs.declared.network.Network.{Network}

-- The units on the arcs that pass the test, where the flow has one unit count for each arc.
abbrev pub units_where : (Arc → Bool) → List Arc → List ℕ → ℕ
units_where test [] flow = 0
units_where test (a ∷ arcs) [] = 0
units_where test (a ∷ arcs) (units ∷ flow) = (if test a then units else 0) + units_where test arcs flow

-- The units on the arcs that arrive at v.
abbrev pub units_in : List Arc → List ℕ → ℕ → ℕ
units_in arcs flow v = units_where (λ a. a.head == v) arcs flow

-- The units on the arcs that leave v.
abbrev pub units_out : List Arc → List ℕ → ℕ → ℕ
units_out arcs flow v = units_where (λ a. a.tail == v) arcs flow

-- At each point the units in minus the units out are its need.
abbrev pub MeetsNeeds : ℕ → List Arc → List ℤ → List ℕ → Type 0
MeetsNeeds points arcs need flow = (v : ℕ) → v < points → pos (units_in arcs flow v) -ℤ pos (units_out arcs flow v) ≡ number_of need v

-- Complementary slackness. Along each arc the potential rises by at least the least difference, so that the reduced
-- cost is from 0 on. Where the flow has units it rises by no more, so that the reduced cost is 0.
pub record IsTight (arcs : List Arc) (flow : List ℕ) (potential : ℕ → ℤ) : Type 0 where
  pub rises : (k : ℕ) (a : Arc) → slice_get arcs k ≡ Some a → a.least ≤ℤ (potential a.head -ℤ potential a.tail)
  pub no_more : (k : ℕ) (a : Arc) → slice_get arcs k ≡ Some a → 0 < slice_index flow k → (potential a.head -ℤ potential a.tail) ≤ℤ a.least

-- The sum of a list of numbers.
abbrev pub total_of : List ℤ → ℤ
total_of [] = pos 0
total_of (x ∷ xs) = x +ℤ total_of xs

-- An arc as an edge, with its least difference as the cost.
abbrev pub length_of : Arc → Edge
length_of a = record { tail = a.tail; head = a.head; cost = a.least }

-- No walk over the arcs from a point to itself has least differences that sum to more than 0.
abbrev pub HasNoPositiveCycle : List Arc → Type 0
HasNoPositiveCycle arcs = (v : ℕ) (walk : List Edge) → IsWalk (map length_of arcs) v walk v → cost_of walk ≤ℤ pos 0

-- The networks that have a solution, whose numbers fit the machine's: their sizes are limited, the needs sum to 0, each
-- point reaches each other, and no cycle has a positive total.
pub record IsNetwork (net : Network) : Type 0 where
  pub some_point : 0 < net.points
  pub few_points : net.points ≤ 2 ^ 14
  pub few_arcs : length net.arcs ≤ 2 ^ 16
  pub ends : All (λ a. (a.tail < net.points) × (a.head < net.points)) net.arcs
  pub leasts : All (λ a. IsWithin (2 ^ 30) a.least) net.arcs
  pub one_need_each : length net.need ≡ net.points
  pub needs : All (IsWithin (2 ^ 14)) net.need
  pub balanced : total_of net.need ≡ pos 0
  pub connected : (u v : ℕ) → u < net.points → v < net.points → Reaches (map length_of net.arcs) u v
  pub no_positive_cycle : HasNoPositiveCycle net.arcs

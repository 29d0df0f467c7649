-- Walks over a list of directed edges: their costs, the least costs, and the tree of least walks.
--
-- The words are those of Ahuja, Magnanti and Orlin, Network Flows, chapters 4 and 5. A point of theirs is a node, a
-- cost a length, a least cost a shortest path distance, and the tree a shortest path tree of predecessors.
use Rattle.std.specs.Prelude.{◌≡◌, ℕ, zero, suc, ◌<◌, ℤ, pos, negsuc, ◌+ℤ◌, neg_ℤ, ◌≤ℤ◌, List, [], ◌∷◌, slice_get, slice_index_or, Option, Some}
use Rattle.std.specs.List.{Contains}
use Rattle.shortest_paths.specs.declared.edges.Edge.{Edge}

-- A walk from u to v is a list of the edges: the first leaves u, each next one leaves the point at which the one before
-- arrives, and the last arrives at v. The empty walk leads from each point to itself.
abbrev pub IsWalk : List Edge → ℕ → List Edge → ℕ → Type 0
IsWalk edges u [] v = u ≡ v
IsWalk edges u (e ∷ walk) v = Contains edges e × (e.tail ≡ u) × IsWalk edges e.head walk v

-- The cost of a walk is the sum of the costs of its edges.
abbrev pub cost_of : List Edge → ℤ
cost_of [] = pos 0
cost_of (e ∷ walk) = e.cost +ℤ cost_of walk

-- Some walk leads from u to v.
abbrev pub Reaches : List Edge → ℕ → ℕ → Type 0
Reaches edges u v = (walk : List Edge) × IsWalk edges u walk v

-- No walk from a point to itself costs less than 0.
abbrev pub HasNoNegativeCycle : List Edge → Type 0
HasNoNegativeCycle edges = (v : ℕ) (walk : List Edge) → IsWalk edges v walk v → pos 0 ≤ℤ cost_of walk

-- The least cost from u to v is c: some walk from u to v costs c, and none costs less.
pub record IsLeastCost (edges : List Edge) (u v : ℕ) (c : ℤ) : Type 0 where
  pub walked : (walk : List Edge) × IsWalk edges u walk v × (cost_of walk ≡ c)
  pub none_less : (walk : List Edge) → IsWalk edges u walk v → c ≤ℤ cost_of walk

-- Both ends of an edge are points, which are the numbers below `points`.
abbrev pub Joins : ℕ → Edge → Type 0
Joins points e = (e.tail < points) × (e.head < points)

-- A number is at most `bound` in size.
abbrev pub IsWithin : ℕ → ℤ → Type 0
IsWithin bound z = (neg_ℤ (pos bound) ≤ℤ z) × (z ≤ℤ pos bound)

-- The number of the point v, in a list with one number for each point.
abbrev pub number_of : List ℤ → ℕ → ℤ
number_of numbers v = slice_index_or numbers v (pos 0)

-- A number from 0 on is itself, and one below 0 counts as 0.
abbrev pub from_zero : ℤ → ℕ
from_zero (pos n) = n
from_zero (negsuc n) = 0

-- The edge at index k ends a least walk to v: it arrives at v, and v's least cost is its tail's and the edge's cost.
pub record EndsLeast (edges : List Edge) (least : List ℤ) (v k : ℕ) : Type 0 where
  pub edge : Edge
  pub at : slice_get edges k ≡ Some edge
  pub arrives : edge.head ≡ v
  pub adds : number_of least v ≡ number_of least edge.tail +ℤ edge.cost

-- Going from v to the tail of the edge that `last` names there, n times, ends at `from`.
abbrev pub ClimbsIn : List Edge → List (Option ℕ) → ℕ → ℕ → ℕ → Type 0
ClimbsIn edges last from zero v = v ≡ from
ClimbsIn edges last from (suc n) v =
    (k : ℕ) × (e : Edge) × (slice_get last v ≡ Some (Some k)) × (slice_get edges k ≡ Some e) × ClimbsIn edges last from n e.tail

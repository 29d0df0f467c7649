-- What the search for least costs keeps from one edge to the next. No public clause cites this.
use Rattle.std.specs.Prelude.{◌≡◌, ◌≢◌, ℕ, ◌<◌, ◌^◌, ℤ, pos, ◌+ℤ◌, ◌≤ℤ◌, ◌<ℤ◌, List, [], ◌∷◌, length, slice_get, slice_set, slice_index_or, Option, Some, None}
use Rattle.std.specs.List.{Contains, sum_by}
use Rattle.shortest_paths.specs.declared.edges.Edge.{Edge}
use Rattle.shortest_paths.specs.declared.edges.Best.{Best}
use Rattle.shortest_paths.specs.Walks.{cost_of, number_of, from_zero, IsWithin}

-- The best walk to v that was found, if one was.
abbrev pub found : List (Option Best) → ℕ → Option Best
found best v = slice_index_or best v None

-- A walk to v was found that costs at most c.
abbrev pub AtMost : List (Option Best) → ℕ → ℤ → Type 0
AtMost best v c = (b : Best) × (found best v ≡ Some b) × (b.cost ≤ℤ c)

-- x is none of the points of a walk that is written from its last edge, which arrives at u, back to its first.
abbrev pub Misses : ℕ → List Edge → ℕ → Type 0
Misses x [] u = x ≢ u
Misses x (e ∷ back) u = (x ≢ u) × Misses x back e.tail

-- A walk from `from` to v, written from its last edge back to its first, meets no point twice, and the best walk to
-- each of its points costs no more than this one has cost there.
abbrev pub Traced : List Edge → ℕ → List (Option Best) → List Edge → ℕ → Type 0
Traced edges from best [] v = v ≡ from
Traced edges from best (e ∷ back) v =
    Contains edges e × (e.head ≡ v) × Misses v back e.tail × AtMost best v (e.cost +ℤ cost_of back) × Traced edges from best back e.tail

-- The best walk b to v ends with an edge whose tail has a walk that is cheap enough for it. Where it is just so
-- cheap, the tail's walk is older: its stamp, the time at which it was found, is less.
pub record LastOf (edges : List Edge) (best : List (Option Best)) (stamp : ℕ → ℕ) (v : ℕ) (b : Best) : Type 0 where
  pub index : ℕ
  pub edge : Edge
  pub tail : Best
  pub is_last : b.last ≡ Some index
  pub at : slice_get edges index ≡ Some edge
  pub arrives : edge.head ≡ v
  pub tail_found : found best edge.tail ≡ Some tail
  pub no_more : (tail.cost +ℤ edge.cost) ≤ℤ b.cost
  pub earlier : (tail.cost +ℤ edge.cost) ≡ b.cost → stamp edge.tail < stamp v

-- This holds all through a search from `from`: the start keeps the empty walk, each cost is that of a traced walk, and
-- each last edge is one, with stamps that are all less than the clock.
pub record IsSearched (edges : List Edge) (from : ℕ) (best : List (Option Best)) : Type 0 where
  pub start : found best from ≡ Some (record { cost = pos 0; last = None })
  pub walks : (v : ℕ) (b : Best) → found best v ≡ Some b → (back : List Edge) × Traced edges from best back v × (cost_of back ≡ b.cost)
  pub stamp : ℕ → ℕ
  pub clock : ℕ
  pub before : (v : ℕ) → stamp v < clock
  pub lasts : (v : ℕ) (b : Best) → v ≢ from → found best v ≡ Some b → LastOf edges best stamp v b

-- The walk to the tail of e and then e is no cheaper than the best walk to the head of e.
abbrev pub IsSettled : List (Option Best) → Edge → Type 0
IsSettled best e = (b : Best) → found best e.tail ≡ Some b → AtMost best e.head (b.cost +ℤ e.cost)

-- So it is with each edge. These are the optimality conditions of least costs.
abbrev pub AreSettled : List (Option Best) → List Edge → Type 0
AreSettled best edges = (e : Edge) → Contains edges e → IsSettled best e

-- The walk to the tail of e and then e is cheaper than each walk to the head of e that was found.
pub record Improves (best : List (Option Best)) (e : Edge) (tail : Best) : Type 0 where
  pub tail_found : found best e.tail ≡ Some tail
  pub cheaper : (b : Best) → found best e.head ≡ Some b → (tail.cost +ℤ e.cost) <ℤ b.cost

-- That walk, by the edge e at index k, is now the best one to the head of e, and nothing else has changed.
pub record IsImprovement (old new : List (Option Best)) (k : ℕ) (e : Edge) : Type 0 where
  pub tail : Best
  pub improves : Improves old e tail
  pub written : new ≡ slice_set old e.head (Some (record { cost = tail.cost +ℤ e.cost; last = Some k }))

-- Each cost is so small that its sum with the cost of an edge is an i64.
abbrev pub AreBounded : List (Option Best) → Type 0
AreBounded best = (v : ℕ) (b : Best) → v < length best → found best v ≡ Some b → IsWithin (2 ^ 60) b.cost

-- The room of a point falls where a walk to it is found or gets cheaper.
abbrev pub room_of : Option Best → ℕ
room_of None = 2 ^ 62
room_of (Some b) = from_zero (b.cost +ℤ pos (2 ^ 61))

-- The room of all points together shows that a search ends.
abbrev pub room : List (Option Best) → ℕ
room best = sum_by room_of best

-- The two lists have the costs and the last edges of the best walks, point by point.
pub record IsReadOff (best : List (Option Best)) (least : List ℤ) (last : List (Option ℕ)) : Type 0 where
  pub costs : (v : ℕ) (b : Best) → found best v ≡ Some b → number_of least v ≡ b.cost
  pub lasts : (v : ℕ) (b : Best) → found best v ≡ Some b → slice_get last v ≡ Some b.last

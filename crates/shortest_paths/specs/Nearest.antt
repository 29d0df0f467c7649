-- What the search that takes the nearest points first keeps, and what it leaves.
use Rattle.std.specs.Prelude.{◌≡◌, ◌≢◌, ℕ, ◌+◌, ◌*◌, ◌<◌, ◌≤◌, ◌^◌, ◌⊎◌, ℤ, ◌+ℤ◌, ◌-ℤ◌, ◌≤ℤ◌, ◌<ℤ◌, List, length, slice_get, slice_index_or, Option, Some, None}
use Rattle.std.specs.List.{Contains, All}
use Rattle.std.specs.declared.cmp.Reverse.{Reverse}
use Rattle.std.specs.declared.cmp.Ordering.{Ordering}
use Rattle.std.specs.Ordering.{nat_cmp, int_cmp, ordering_then}
use Rattle.std.specs.BinaryHeap.{IsHeap}
use Rattle.shortest_paths.specs.declared.edges.Edge.{Edge}
use Rattle.shortest_paths.specs.declared.edges.Best.{Best}
use Rattle.shortest_paths.specs.declared.heap.Searcher.{Searcher}
use Rattle.shortest_paths.specs.Walks.{number_of, IsWithin}
use Rattle.shortest_paths.specs.Search.{found, AtMost, IsSearched, room}

-- No edge gives its head less than its number: with these numbers as potentials no reduced cost is below 0.
abbrev pub Permits : List Edge → List ℤ → Type 0
Permits edges numbers = (e : Edge) → Contains edges e → number_of numbers e.head ≤ℤ (number_of numbers e.tail +ℤ e.cost)

-- The numbers are so small that their sums with costs of walks are i64s.
abbrev pub AreSmall : List ℤ → Type 0
AreSmall numbers = (v : ℕ) → IsWithin (2 ^ 60) (number_of numbers v)

-- A point to which a walk was found waits by its reduced cost, which is the cost less the number of the point, and
-- then by its cost.
abbrev pub Waiter : Type 0
Waiter = Reverse (ℤ × ℤ × ℕ)

abbrev pub waiter : List ℤ → ℤ → ℕ → Waiter
waiter numbers cost point = record { 0 = (cost -ℤ number_of numbers point, cost, point) }

abbrev pub compare_waiters : Waiter → Waiter → Ordering
compare_waiters x y = ordering_then (int_cmp y.0.0 x.0.0) (ordering_then (int_cmp y.0.1 x.0.1) (nat_cmp y.0.2 x.0.2))

-- One that waits is a point, by the cost of a walk and the reduced cost.
abbrev pub IsWaiter : ℕ → List ℤ → Waiter → Type 0
IsWaiter points numbers w =
    (w.0.2 < points) × (w.0.0 ≡ w.0.1 -ℤ number_of numbers w.0.2) × IsWithin (2 ^ 62) w.0.0 × IsWithin (2 ^ 62) w.0.1

abbrev pub AreWaiters : ℕ → List ℤ → List Waiter → Type 0
AreWaiters points numbers waiting = All (IsWaiter points numbers) waiting

-- The edge is settled, or its tail waits.
abbrev pub Waits : List (Option Best) → List ℤ → List Waiter → Edge → Type 0
Waits best numbers waiting e =
    (b : Best) → found best e.tail ≡ Some b → AtMost best e.head (b.cost +ℤ e.cost)
    ⊎ Contains waiting (waiter numbers b.cost e.tail)

-- So it is with each edge that does not leave the point.
abbrev pub AllWaitBut : ℕ → List (Option Best) → List ℤ → List Waiter → List Edge → Type 0
AllWaitBut point best numbers waiting edges = (e : Edge) → Contains edges e → e.tail ≢ point → Waits best numbers waiting e

-- So it is with each edge.
abbrev pub AllWait : List (Option Best) → List ℤ → List Waiter → List Edge → Type 0
AllWait best numbers waiting edges = (e : Edge) → Contains edges e → Waits best numbers waiting e

-- What going over some edges keeps.
pub record IsRelaxed (edges : List Edge) (numbers : List ℤ) (old new : List (Option Best)) (heap heap' : List Waiter)
    (len len' : ℕ) : Type 0 where
  pub kept : (from : ℕ) → IsSearched edges from old → IsSearched edges from new
  pub falls : 2 * room new + len' ≤ 2 * room old + len
  pub waits : (e : Edge) → Waits old numbers heap e → Waits new numbers heap' e
  pub order : IsHeap compare_waiters heap → IsHeap compare_waiters heap'
  pub inside : AreWaiters (length old) numbers heap → AreWaiters (length old) numbers heap'

-- Each edge whose tail is nearer than the limit is settled.
abbrev pub AreSettledBelow : List (Option Best) → List ℤ → ℤ → List Edge → Type 0
AreSettledBelow best numbers limit edges =
    (e : Edge) → Contains edges e → (b : Best) → found best e.tail ≡ Some b → AtMost best e.head (b.cost +ℤ e.cost)
    ⊎ (limit ≤ℤ (b.cost -ℤ number_of numbers e.tail))

-- The cost and the last edge of a walk that costs no more than `most`, or `most` and none.
abbrev pub IsCutAt : Option Best → ℤ → ℤ → Option ℕ → Type 0
IsCutAt walk most cost last =
    ((b : Best) × (walk ≡ Some b) × (b.cost ≤ℤ most) × (cost ≡ b.cost) × (last ≡ b.last))
    ⊎ (((b : Best) → walk ≡ Some b → most <ℤ b.cost) × (cost ≡ most) × (last ≡ None))

-- So it is at each point, where `most` is its old number and the limit.
abbrev pub IsCut : List (Option Best) → ℤ → List ℤ → List ℤ → List (Option ℕ) → Type 0
IsCut best limit old new last =
    (v : ℕ) → v < length best → IsCutAt (found best v) (number_of old v +ℤ limit) (number_of new v) (slice_index_or last v None)

-- There is room for each point.
pub record AreSized (s : Searcher) : Type 0 where
  pub best_each : length s.best.items ≡ s.points
  pub number_each : length s.numbers.items ≡ s.points
  pub last_each : length s.last.items ≡ s.points

-- The point is in the tree: it has a last edge.
abbrev pub IsLinked : List (Option ℕ) → ℕ → Type 0
IsLinked last v = (k : ℕ) × (slice_get last v ≡ Some (Some k))

-- The edges that leave a point, from the last one back.
use Rattle.std.specs.Prelude.{◌≡◌, ◌≢◌, ℕ, ◌<◌, List, length, slice_get, Option, Some, None}
use Rattle.shortest_paths.specs.declared.edges.Edge.{Edge}
use Rattle.shortest_paths.specs.declared.leaving.Leaving.{Leaving}

-- Of the first edges, as many as `bound`, this is the last one that leaves v, if there is one.
abbrev pub IsLatest : List Edge → ℕ → ℕ → Option ℕ → Type 0
IsLatest edges bound v None = (j : ℕ) (e : Edge) → j < bound → slice_get edges j ≡ Some e → e.tail ≢ v
IsLatest edges bound v (Some k) =
    (k < bound) × ((e : Edge) → slice_get edges k ≡ Some e → e.tail ≡ v)
    × ((j : ℕ) (e : Edge) → k < j → j < bound → slice_get edges j ≡ Some e → e.tail ≢ v)

-- `newest` has the last edge of each point, and `older` for each edge the one before it that leaves the same point.
pub record IsLeaving (points : ℕ) (edges : List Edge) (l : Leaving) : Type 0 where
  pub newest_each : length l.newest.items ≡ points
  pub older_each : length l.older.items ≡ length edges
  pub newest_is : (v : ℕ) → v < points → (o : Option ℕ) × (slice_get l.newest.items v ≡ Some o) × IsLatest edges (length edges) v o
  pub older_is : (k : ℕ) (e : Edge) → slice_get edges k ≡ Some e → (o : Option ℕ) × (slice_get l.older.items k ≡ Some o)
      × IsLatest edges k e.tail o

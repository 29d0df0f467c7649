-- Paths of admissible arcs, which are those whose reduced cost is 0 (Ahuja, Magnanti and Orlin, Network Flows,
-- chapter 9). No public clause cites this.
use Rattle.std.specs.Prelude.{◌≡◌, ℕ, ℤ, ◌-ℤ◌, List, [], ◌∷◌, length, slice_get, Option, Some}
use Rattle.shortest_paths.specs.declared.edges.Edge.{Edge}
use Rattle.min_cost_flow.specs.declared.network.Arc.{Arc}
use Rattle.min_cost_flow.specs.declared.network.Network.{Network}
use Rattle.min_cost_flow.specs.declared.search.Walks.{Walks}
use Rattle.min_cost_flow.specs.declared.admissible.Trail.{Trail}
use Rattle.min_cost_flow.specs.Search.{IsReady}

-- The arc at index k leaves v, and the potential rises along it by just the least difference.
abbrev pub IsAdmissibleAt : List Arc → (ℕ → ℤ) → ℕ → ℕ → Type 0
IsAdmissibleAt arcs potential v k =
    (a : Arc) × (slice_get arcs k ≡ Some a) × (a.tail ≡ v) × ((potential a.head -ℤ potential a.tail) ≡ a.least)

-- A path of admissible arcs from u to v, by their indexes.
abbrev pub IsAdmissiblePath : List Arc → (ℕ → ℤ) → ℕ → List ℕ → ℕ → Type 0
IsAdmissiblePath arcs potential u [] v = u ≡ v
IsAdmissiblePath arcs potential u (k ∷ path) v = (a : IsAdmissibleAt arcs potential u k) × IsAdmissiblePath arcs potential a.0.head path v

-- The edge at index k leaves v.
abbrev pub LeavesAt : List Edge → ℕ → ℕ → Type 0
LeavesAt edges v k = (e : Edge) × (slice_get edges k ≡ Some e) × (e.tail ≡ v)

-- The current edge of a point, where it has one, leaves it.
abbrev pub AreCurrent : List Edge → List (Option ℕ) → Type 0
AreCurrent edges current = (v k : ℕ) → slice_get current v ≡ Some (Some k) → LeavesAt edges v k

-- There is a current edge and a mark for each point.
pub record IsTrail (net : Network) (w : Walks) (t : Trail) : Type 0 where
  pub current_each : length t.current.items ≡ net.points
  pub marks_each : length t.is_on_path.items ≡ net.points
  pub current : AreCurrent w.residual.edges.items t.current.items

-- All is there for searches by the potentials of some flow.
abbrev pub HasPotentials : Network → Walks → Type 0
HasPotentials net w = (flow : List ℕ) × (length flow ≡ length net.arcs) × IsReady net flow w

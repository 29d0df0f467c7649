-- The residual network of a flow: the ways in which units more can be sent.
use Rattle.std.specs.Prelude.{◌≡◌, ℕ, ◌+◌, ◌-◌, ◌<◌, ◌==◌, if◌then◌else◌, ℤ, pos, ◌+ℤ◌, ◌-ℤ◌, neg_ℤ, List, length, true, false, slice_get, slice_index, Option, Some}
use Rattle.shortest_paths.specs.declared.edges.Edge.{Edge}
use Rattle.min_cost_flow.specs.declared.network.Arc.{Arc}
use Rattle.min_cost_flow.specs.declared.network.Step.{Step}
use Rattle.min_cost_flow.specs.Flow.{units_in, units_out}

-- One unit more on an arc goes from its tail to its head, and costs minus the least difference.
abbrev pub forward : Arc → Edge
forward a = record { tail = a.tail; head = a.head; cost = neg_ℤ a.least }

-- One unit fewer on an arc goes from its head to its tail, the reverse arc, and gives that cost back.
abbrev pub backward : Arc → Edge
backward a = record { tail = a.head; head = a.tail; cost = a.least }

-- The edge stands for the step. One unit fewer needs a unit that is there.
pub data IsMove (arcs : List Arc) (flow : List ℕ) : Edge → Step → Type 0 where
  more : (k : ℕ) (a : Arc) → slice_get arcs k ≡ Some a → IsMove arcs flow (forward a) (record { arc = k; back = false })
  fewer : (k : ℕ) (a : Arc) → slice_get arcs k ≡ Some a → 0 < slice_index flow k
      → IsMove arcs flow (backward a) (record { arc = k; back = true })

-- The edges, each with its step, are those of the residual network: a forward one for each arc, and then a reverse
-- one for each, whose limit is the units that are on the arc.
pub record IsResidual (arcs : List Arc) (edges : List Edge) (steps : List Step) : Type 0 where
  pub edges_each : length edges ≡ length arcs + length arcs
  pub forwards : (k : ℕ) (a : Arc) → slice_get arcs k ≡ Some a → (slice_get edges k ≡ Some (forward a))
      × (slice_get steps k ≡ Some (record { arc = k; back = false }))
  pub backwards : (k : ℕ) (a : Arc) → slice_get arcs k ≡ Some a → (slice_get edges (length arcs + k) ≡ Some (backward a))
      × (slice_get steps (length arcs + k) ≡ Some (record { arc = k; back = true }))

-- The units in minus the units out.
abbrev pub net_of : List Arc → List ℕ → ℕ → ℤ
net_of arcs flow v = pos (units_in arcs flow v) -ℤ pos (units_out arcs flow v)

-- So many units at w, and none elsewhere.
abbrev pub units_at : ℕ → ℕ → ℕ → ℕ
units_at units w v = if w == v then units else 0

-- What is on the arc of the step, after so many units took it.
abbrev pub after_step : List ℕ → ℕ → Step → ℕ
after_step flow units s = if s.back then slice_index flow s.arc - units else slice_index flow s.arc + units

-- Along each edge that `last` names, the potential falls by just the cost: the reduced cost of a tree edge is 0.
abbrev pub IsTreeTight : List Edge → List (Option ℕ) → (ℕ → ℤ) → Type 0
IsTreeTight edges last potential =
    (v k : ℕ) (e : Edge) → slice_get last v ≡ Some (Some k) → slice_get edges k ≡ Some e
    → (potential e.head +ℤ e.cost) ≡ potential e.tail

-- What a search in the residual network of a flow gives. No public clause cites this.
use Rattle.std.specs.Prelude.{◌≡◌, ℕ, ◌<◌, ◌≤◌, ℤ, pos, neg_ℤ, List, length, true, slice_get, slice_index, Some, None}
use Rattle.shortest_paths.specs.declared.edges.Edge.{Edge}
use Rattle.shortest_paths.specs.declared.heap.Searcher.{Searcher}
use Rattle.shortest_paths.specs.Walks.{number_of, ClimbsIn}
use Rattle.shortest_paths.specs.Leaving.{IsLeaving}
use Rattle.shortest_paths.specs.Nearest.{AreSized}
use Rattle.min_cost_flow.specs.declared.network.Network.{Network}
use Rattle.min_cost_flow.specs.declared.network.Step.{Step}
use Rattle.min_cost_flow.specs.declared.residual.Residual.{Residual}
use Rattle.min_cost_flow.specs.declared.search.Walks.{Walks}
use Rattle.min_cost_flow.specs.Flow.{IsTight}
use Rattle.min_cost_flow.specs.Residual.{IsMove, IsResidual, IsTreeTight}

-- The potential of a point is minus its number.
abbrev pub potential_of : List ℤ → ℕ → ℤ
potential_of numbers v = neg_ℤ (number_of numbers v)

-- The edge at index k arrives at v, and stands for a step that the flow allows.
pub record Ends (net : Network) (flow : List ℕ) (r : Residual) (v k : ℕ) : Type 0 where
  pub edge : Edge
  pub step : Step
  pub there : slice_get r.edges.items k ≡ Some edge
  pub arrives : edge.head ≡ v
  pub step_there : slice_get r.steps.items k ≡ Some step
  pub move : IsMove net.arcs flow edge step

-- The search has cheapest walks from the point `from` in the residual network of the flow, to some points. Its
-- potentials satisfy complementary slackness with the flow.
pub record IsSearchOf (net : Network) (flow : List ℕ) (from : ℕ) (r : Residual) (d : Searcher) : Type 0 where
  pub last_each : length d.last.items ≡ net.points
  pub tight : IsTight net.arcs flow (potential_of d.numbers.items)
  pub root : slice_get d.last.items from ≡ Some None
  pub ends : (v k : ℕ) → slice_get d.last.items v ≡ Some (Some k) → Ends net flow r v k
  pub tree : (v k : ℕ) → slice_get d.last.items v ≡ Some (Some k) → (n : ℕ) × (n < net.points)
      × ClimbsIn r.edges.items d.last.items from n v
  pub tree_tight : IsTreeTight r.edges.items d.last.items (potential_of d.numbers.items)

-- All is there for a search in the residual network of the flow: its edges, and potentials that satisfy complementary
-- slackness with the flow and are 0 at some point.
pub record IsReady (net : Network) (flow : List ℕ) (w : Walks) : Type 0 where
  pub residual : IsResidual net.arcs w.residual.edges.items w.residual.steps.items
  pub leaving : IsLeaving net.points w.residual.edges.items w.leaving
  pub sized : AreSized w.search
  pub points_each : w.search.points ≡ net.points
  pub tight : IsTight net.arcs flow (potential_of w.search.numbers.items)
  pub zero_at : ℕ
  pub zero_in : zero_at < net.points
  pub is_zero : number_of w.search.numbers.items zero_at ≡ pos 0

-- The walk to the point `to`, by the tree of cheapest walks, can carry so many units: each of its reverse arcs, at the
-- point v that lies n edges before `to`, has them.
abbrev pub CanCarry : List ℕ → Residual → Searcher → ℕ → ℕ → Type 0
CanCarry flow r d to units =
    (n v k : ℕ) (s : Step) → ClimbsIn r.edges.items d.last.items v n to → slice_get d.last.items v ≡ Some (Some k)
    → slice_get r.steps.items k ≡ Some s → s.back ≡ true → units ≤ slice_index flow s.arc

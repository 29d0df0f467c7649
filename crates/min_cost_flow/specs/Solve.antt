-- What the solver keeps between two searches. No public clause cites this.
use Rattle.std.specs.Prelude.{◌≡◌, ℕ, ◌+◌, ◌*◌, ◌^◌, ◌<◌, ◌≤◌, ℤ, pos, ◌+ℤ◌, List, length, slice_index}
use Rattle.std.specs.List.{sum_by}
use Rattle.shortest_paths.specs.Walks.{number_of, from_zero}
use Rattle.min_cost_flow.specs.declared.network.Network.{Network}
use Rattle.min_cost_flow.specs.Flow.{total_of}
use Rattle.min_cost_flow.specs.Residual.{net_of}

-- The units that are still to arrive. Each search makes them fewer.
abbrev pub wanted : List ℤ → ℕ
wanted unmet = sum_by from_zero unmet

-- The flow and the unmet needs make up the needs, and the units that are still to be sent leave the counts on the arcs
-- small, also where a path of at most 2^17 arcs goes over one of them again and again.
pub record IsMeeting (net : Network) (flow : List ℕ) (unmet : List ℤ) : Type 0 where
  pub units_each : length flow ≡ length net.arcs
  pub unmet_each : length unmet ≡ net.points
  pub unmet_is : (v : ℕ) → v < net.points → net_of net.arcs flow v +ℤ number_of unmet v ≡ number_of net.need v
  pub balanced : total_of unmet ≡ pos 0
  pub room : (k : ℕ) → slice_index flow k + 2 ^ 17 * wanted unmet ≤ 2 ^ 45

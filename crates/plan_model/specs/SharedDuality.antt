-- What a flow in the network of shared lines shows.
use Rattle.std.specs.Prelude.{◌≡◌, ℕ, ◌+◌, ◌≤◌, pos, ◌≤ℤ◌, List}
use Rattle.std.specs.List.{All}
use Rattle.graph_model.specs.Graphs.{latency_at, output_name}
use Rattle.graph_model.specs.Paths.{IsLive, latency_of_graph}
use Rattle.graph_model.specs.Sound.{IsSound}
use Rattle.graph_model.specs.declared.graph.Graph.{Graph}
use Rattle.plan_model.specs.Alignments.{IsAlignment}
use Rattle.plan_model.specs.Networks.{Keeps, IsTightOn}
use Rattle.plan_model.specs.Lives.{values}
use Rattle.plan_model.specs.SharedLines.{shared_total, IsBestShared, line_length}
use Rattle.plan_model.specs.SharedFlows.{at_node, mirror, mirrored, shared_terms, shared_network, IsSharedFlow, shared_bound}
use Rattle.plan_model.specs.declared.shared.Point.{Point}
use Rattle.plan_model.specs.declared.shared.PointUnits.{PointUnits}

abbrev pub IsSharedTight : Graph → ℕ → (Point → ℕ) → PointUnits → Type 0
IsSharedTight g latency r e = IsTightOn (shared_terms g) (shared_network g latency) r e

-- no alignment of a latency has a smaller sum of lines than the bound of a flow for it
abbrev pub SharedWeakDuality : Type 0
SharedWeakDuality = (g : Graph) (latency : ℕ) (flow : List PointUnits) (p : ℕ → ℕ) → IsSound g →
    IsSharedFlow g latency flow → IsAlignment g p → p (output_name g) ≡ latency → shared_bound g latency flow ≤ℤ pos (shared_total g p)

-- where the sum is the bound, the alignment with its mirrors is tight wherever the flow has units, and the other way
-- round
abbrev pub SharedOptimumIsTight : Type 0
SharedOptimumIsTight = (g : Graph) (latency : ℕ) (flow : List PointUnits) (p : ℕ → ℕ) → IsSound g →
    IsSharedFlow g latency flow → IsAlignment g p → p (output_name g) ≡ latency → pos (shared_total g p) ≡ shared_bound g latency flow →
    All (IsSharedTight g latency (mirrored g p)) flow

abbrev pub SharedTightIsOptimum : Type 0
SharedTightIsOptimum = (g : Graph) (latency : ℕ) (flow : List PointUnits) (p : ℕ → ℕ) → IsSound g →
    IsSharedFlow g latency flow → IsAlignment g p → p (output_name g) ≡ latency → All (IsSharedTight g latency (mirrored g p)) flow →
    pos (shared_total g p) ≡ shared_bound g latency flow

-- potentials of the network: they keep its differences, with the root at 0 and the output node at the latency
pub record ArePotentials (g : Graph) (latency : ℕ) (r : Point → ℕ) : Type 0 where
  pub root : r (at_node 0) ≡ 0
  pub keeps : All (Keeps r) (shared_network g latency)

-- potentials that satisfy complementary slackness with a flow, and are the least that do, give the best alignment;
-- and what they leave to a mirror is the line of its value
abbrev pub IsLeastTight : Graph → ℕ → List PointUnits → (Point → ℕ) → Type 0
IsLeastTight g latency flow r = (s : Point → ℕ) → ArePotentials g latency s → All (IsSharedTight g latency s) flow →
    (v : ℕ) → IsLive g v → r (at_node v) ≤ s (at_node v)

abbrev pub SharedLeastOfOptima : Type 0
SharedLeastOfOptima = (g : Graph) (flow : List PointUnits) (r : Point → ℕ) → IsSound g →
    IsSharedFlow g (latency_of_graph g) flow → ArePotentials g (latency_of_graph g) r → All (IsSharedTight g (latency_of_graph g) r) flow →
    IsLeastTight g (latency_of_graph g) flow r →
    IsBestShared g (λ v. r (at_node v))
    × (pos (shared_total g (λ v. r (at_node v))) ≡ shared_bound g (latency_of_graph g) flow)
    × All (λ x. r (mirror x) ≡ r (at_node x.uid.0) + latency_at g x.uid.0 + line_length g (λ v. r (at_node v)) x) (values g)

-- What the solver gives for a network of a graph, joined.
use Rattle.std.proofs.Common.{◌≡◌, ℕ, ◌<◌, ℤ, pos, ◌≤ℤ◌, List, length, subst}
use Rattle.graph_model.specs.Sound.{IsSound}
use Rattle.graph_model.specs.declared.graph.Graph.{Graph}
use Rattle.min_cost_flow.specs.Flow.{IsTight, MeetsNeeds}
use Rattle.min_cost_flow.specs.declared.network.Network.{Network}
use Rattle.min_cost_flow.specs.declared.network.Solved.{Solved}
use Rattle.shortest_paths.specs.Walks.{number_of}
use Rattle.alignment.specs.Networks.{ArePoints}

-- a network of the graph, of the kind that `Is` says, with a flow and least potentials
pub record IsSolutionOf (Is : Graph → List ℕ → Network → Type 0) (g : Graph) (points : List ℕ) (net : Network) (solved : Solved) : Type 0 where
  pub sound : IsSound g
  pub are : ArePoints g points
  pub network : Is g points net
  pub units : length solved.flow ≡ length net.arcs
  pub each : length solved.potential ≡ net.points
  pub meets : MeetsNeeds net.points net.arcs net.need solved.flow
  pub tight : IsTight net.arcs solved.flow (number_of solved.potential)
  pub root : number_of solved.potential 0 ≡ pos 0
  pub least : (q : List ℤ) → number_of q 0 ≡ pos 0 → IsTight net.arcs solved.flow (number_of q) → (v : ℕ) → v < net.points → number_of solved.potential v ≤ℤ number_of q v

-- the points were handed over as a list of their own
pub solution : (Is : Graph → List ℕ → Network → Type 0) (g : Graph) (points handed : List ℕ) (net : Network) (solved : Solved) → ArePoints g points → IsSound g → handed ≡ points → Is g handed net
    → (length solved.flow ≡ length net.arcs) × (length solved.potential ≡ net.points) → MeetsNeeds net.points net.arcs net.need solved.flow → IsTight net.arcs solved.flow (number_of solved.potential)
    → number_of solved.potential 0 ≡ pos 0
    → ((q : List ℤ) → number_of q 0 ≡ pos 0 → IsTight net.arcs solved.flow (number_of q) → (v : ℕ) → v < net.points → number_of solved.potential v ≤ℤ number_of q v)
    → IsSolutionOf Is g points net solved
solution Is g points handed net solved are sound same network sizes meets tight root least = record {
  sound = sound;
  are = are;
  network = subst (λ ps. Is g ps net) same network;
  units = sizes.0;
  each = sizes.1;
  meets = meets;
  tight = tight;
  root = root;
  least = least;
}

-- The network of a graph by the numbers of its points.
use Rattle.std.specs.Prelude.{◌≡◌, ℕ, ◌≤◌, ◌^◌, ◌==◌, List, length, map, AllPairs}
use Rattle.std.specs.List.{All, Contains, position_or_len}
use Rattle.std.specs.List.Sorted.{IsStrictlyIncreasing}
use Rattle.graph_model.specs.Paths.{latency_of_graph}
use Rattle.graph_model.specs.declared.graph.Graph.{Graph}
use Rattle.plan_model.specs.Flows.{IsPoint, network, need_of_point, terms}
use Rattle.plan_model.specs.Pairs.{ComesBefore}
use Rattle.min_cost_flow.specs.declared.network.Arc.{Arc}
use Rattle.min_cost_flow.specs.declared.network.Network.{Network}
use Rattle.alignment.specs.Numbered.{AreArcsBy}

-- the names of the points, ascending: the root, and the live nodes; a point's number is its place
pub record ArePoints (g : Graph) (points : List ℕ) : Type 0 where
  pub rising : IsStrictlyIncreasing points
  pub each : All (IsPoint g) points
  pub all : (v : ℕ) → IsPoint g v → Contains points v
  pub few : length points ≤ 513

-- the number of the point of that name
abbrev pub number_in : List ℕ → ℕ → ℕ
number_in points v = position_or_len (λ u. u == v) points

-- exactly the difference constraints of the graph's network, each once, ascending by tail and then by head
pub record AreNetworkArcs (g : Graph) (points : List ℕ) (arcs : List Arc) : Type 0 where
  pub are : AreArcsBy (terms g) 0 points (network g (latency_of_graph g)) arcs
  pub rising : AllPairs (λ a b. ComesBefore (a.tail, a.head) (b.tail, b.head)) arcs
  pub few : length arcs ≤ 2 ^ 14

-- the network that is solved: these arcs, and the need of each point
pub record IsNetworkOf (g : Graph) (points : List ℕ) (net : Network) : Type 0 where
  pub numbered : net.points ≡ length points
  pub arcs : AreNetworkArcs g points net.arcs
  pub need : net.need ≡ map (need_of_point g) points

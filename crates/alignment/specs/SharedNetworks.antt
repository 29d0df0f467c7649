-- The network of shared lines by the numbers of its points: the root and the live nodes as in the other network, then
-- the mirrors.
use Rattle.std.specs.Prelude.{◌≡◌, ℕ, ◌≤◌, ◌^◌, ◌++◌, List, length, map, AllPairs}
use Rattle.graph_model.specs.Paths.{latency_of_graph}
use Rattle.graph_model.specs.declared.graph.Graph.{Graph}
use Rattle.min_cost_flow.specs.declared.network.Arc.{Arc}
use Rattle.min_cost_flow.specs.declared.network.Network.{Network}
use Rattle.plan_model.specs.Lives.{values}
use Rattle.plan_model.specs.Pairs.{ComesBefore}
use Rattle.plan_model.specs.SharedFlows.{at_node, mirror, shared_terms, shared_network, need_by}
use Rattle.plan_model.specs.declared.shared.Point.{Point}
use Rattle.plan_model.specs.declared.shared.PointUnits.{PointUnits}
use Rattle.alignment.specs.Numbered.{AreArcsBy}

-- the points, where `points` are the root's and the live nodes' names
abbrev pub shared_points : Graph → List ℕ → List Point
shared_points g points = map at_node points ++ map mirror (values g)

-- the entry of a flow between two points
abbrev pub point_entry : Point → Point → ℕ → PointUnits
point_entry u v n = record { tail = u; head = v; units = n }

-- exactly the difference constraints of the network of shared lines, each once, ascending by tail and then by head
pub record AreSharedArcs (g : Graph) (points : List ℕ) (arcs : List Arc) : Type 0 where
  pub are : AreArcsBy (shared_terms g) (at_node 0) (shared_points g points) (shared_network g (latency_of_graph g)) arcs
  pub rising : AllPairs (λ a b. ComesBefore (a.tail, a.head) (b.tail, b.head)) arcs
  pub few : length arcs ≤ 2 ^ 16

-- the network that is solved: these arcs, and the need of each point
pub record IsSharedNetworkOf (g : Graph) (points : List ℕ) (net : Network) : Type 0 where
  pub numbered : net.points ≡ length (shared_points g points)
  pub arcs : AreSharedArcs g points net.arcs
  pub need : net.need ≡ map (λ x. need_by g x.uid x.channel) (shared_points g points)

-- What is answered of a graph.
use Rattle.std.specs.Prelude.{◌≡◌, ℕ, ◌<◌, ◌↔◌, IsTrue, Bool, List, length, map}
use Rattle.std.specs.List.{All, AllZip}
use Rattle.graph_model.specs.Checks.{IsClosedWalk}
use Rattle.graph_model.specs.Orders.{IsOrder}
use Rattle.graph_model.specs.Paths.{IsLive, IsAcyclic, IsPrintedPath, IsReach, reach}
use Rattle.graph_model.specs.declared.graph.Graph.{Graph}
use Rattle.graph_model.specs.declared.refused.Refused.{Refused}
use Rattle.graph_model.specs.declared.refused.Refused.TheVariants.{Fault, Memory}
use Rattle.graph_model.specs.Named.{uid_at}
use Rattle.topology.specs.declared.cycles.Cycle.{Cycle}
use Rattle.topology.specs.declared.reaches.Reach.{Reach}

-- node indexes, whose names stand in the order of the graph
pub record IsOrderOfNodes (g : Graph) (os : List ℕ) : Type 0 where
  pub indexes : All (λ k. k < length g.nodes) os
  pub order : IsOrder g (map (uid_at g) os)

-- a fault is a closed walk, and then there is no order
abbrev pub IsCycleOf : Graph → Refused Cycle → Type 0
IsCycleOf g (Fault cycle) = IsClosedWalk g cycle.walk × ¬ IsAcyclic g
IsCycleOf g Memory = Unit {0}

-- one answer for each node: whether it is live
abbrev pub AreLive : Graph → List Bool → Type 0
AreLive g marks = AllZip (λ n live. IsTrue live ↔ IsLive g n.uid.0) g.nodes marks

-- the reach of each node, which is the sum of a path into it and which no path exceeds, and the printed path
pub record IsReachOf (g : Graph) (r : Reach) : Type 0 where
  pub at : r.at ≡ map (λ n. reach g n.uid.0) g.nodes
  pub longest : AllZip (λ n m. IsReach g n.uid.0 m) g.nodes r.at
  pub path : IsPrintedPath g r.path

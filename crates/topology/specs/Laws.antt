-- What is proved of the definitions.
use Rattle.std.specs.Prelude.{◌≡◌, ℕ, Bool, List, map}
use Rattle.graph_model.specs.Checks.{IsClosedWalk}
use Rattle.graph_model.specs.Orders.{IsOrder}
use Rattle.graph_model.specs.Paths.{IsAcyclic, is_live}
use Rattle.graph_model.specs.declared.graph.Graph.{Graph}
use Rattle.graph_model.specs.Named.{IsNamed, HasOneOutput}
use Rattle.topology.specs.Answers.{AreLive}

-- there is no order where there is a closed walk
abbrev pub ClosedWalkHasNoOrder : Type 0
ClosedWalkHasNoOrder = (g : Graph) → IsNamed g → (walk order : List ℕ) → IsClosedWalk g walk → IsOrder g order → ⊥

-- without a closed walk the live nodes are those that pass the test of a live node
abbrev pub LiveIsListed : Type 0
LiveIsListed = (g : Graph) (marks : List Bool) → IsNamed g → HasOneOutput g → IsAcyclic g → AreLive g marks
    → marks ≡ map (λ n. is_live g n.uid.0) g.nodes

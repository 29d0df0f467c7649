-- The depths of the nodes.
use Rattle.std.specs.Prelude.{◌≡◌, ℕ, ◌<◌, List, [], length, map, get_or}
use Rattle.std.specs.List.{All}
use Rattle.graph_model.specs.Graphs.{connections_into}
use Rattle.graph_model.specs.Named.{uid_at}
use Rattle.graph_model.specs.Paths.{depth}
use Rattle.graph_model.specs.declared.graph.Connection.{Connection}
use Rattle.graph_model.specs.declared.graph.Graph.{Graph}
use Rattle.schedule.specs.declared.groups.Entry.{Entry}

-- an entry for each of these connections: its source in the group of its destination, by their indexes
pub record AreJoints (g : Graph) (cs : List Connection) (entries : List (Entry ℕ)) : Type 0 where
  pub within : All (λ e. (e.group < length g.nodes) × (e.item < length g.nodes)) entries
  pub sources : map (λ e. uid_at g e.item) entries ≡ map (λ c. c.src.0) cs
  pub destinations : map (λ e. uid_at g e.group) entries ≡ map (λ c. c.dst.0) cs

-- at each node the sources of the connections into it, by their indexes
pub record AreSources (g : Graph) (sources : List (List ℕ)) : Type 0 where
  pub nodes : length sources ≡ length g.nodes
  pub within : (v : ℕ) → v < length g.nodes → All (λ s. s < length g.nodes) (get_or sources v [])
  pub each : (v : ℕ) → v < length g.nodes → map (uid_at g) (get_or sources v []) ≡ map (λ c. c.src.0) (connections_into g (uid_at g v))

-- the depth of each node
abbrev pub depths_of : Graph → List ℕ
depths_of g = map (λ n. depth g n.uid.0) g.nodes

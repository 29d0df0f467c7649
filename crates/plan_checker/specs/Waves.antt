-- What is asked of the nodes of a wave, where the live nodes are known, and of the connections into it.
use Rattle.std.specs.Prelude.{◌≡◌, ℕ, List, Some, map, slice_get, true}
use Rattle.std.specs.List.{Contains, flat_map}
use Rattle.graph_model.specs.Paths.{is_live}
use Rattle.graph_model.specs.declared.graph.Uid.{Uid}
use Rattle.graph_model.specs.declared.graph.Connection.{Connection}
use Rattle.graph_model.specs.declared.graph.Graph.{Graph}
use Rattle.plan_model.specs.Schedules.{names}
use Rattle.plan_model.specs.declared.schedule.Wave.{Wave}

-- a live node that stands in none of the waves before
abbrev pub IsNew : List ℕ → List Wave → ℕ → Type 0
IsNew live before v = Contains live v × (Contains (flat_map names before) v → ⊥)

-- connection k, where it is live and leads to one of the nodes, comes from a wave before
abbrev pub IsReady : Graph → List Wave → List Uid → ℕ → Type 0
IsReady g before nodes k =
    (c : Connection) → slice_get g.connections k ≡ Some c → is_live g c.dst.0 ≡ true → Contains (map (λ u. u.0) nodes) c.dst.0
    → Contains (flat_map names before) c.src.0

-- The live nodes by their depths.
use Rattle.std.specs.Prelude.{◌≡◌, List, map}
use Rattle.std.specs.List.{All}
use Rattle.std.specs.List.Sorted.{IsStrictlyIncreasing, IsPermutation}
use Rattle.graph_model.specs.Paths.{depth, live_nodes}
use Rattle.graph_model.specs.declared.graph.Uid.{Uid}
use Rattle.graph_model.specs.declared.graph.Graph.{Graph}
use Rattle.schedule.specs.declared.groups.Entry.{Entry}

-- the live nodes, ascending, each in the group of its depth
pub record AreByDepth (g : Graph) (entries : List (Entry Uid)) : Type 0 where
  pub live : IsPermutation (live_nodes g) (map (λ e. e.item.0) entries)
  pub rising : IsStrictlyIncreasing (map (λ e. e.item.0) entries)
  pub deep : All (λ e. e.group ≡ depth g e.item.0) entries

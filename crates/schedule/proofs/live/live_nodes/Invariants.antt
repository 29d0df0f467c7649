use Rattle.std.proofs.Common.{◌≡◌, map, take, filter, All}
use Rattle.graph_model.specs.Paths.{is_live, depth}
use Rattle.graph_model.specs.declared.graph.Uid.{Uid}
use Rattle.graph_model.specs.declared.graph.Node.{Node}
use Rattle.schedule.specs.declared.groups.Entry.{Entry}
use Rattle.schedule.proofs.live.live_nodes.Given as goal

-- the live nodes so far, each in the group of its depth
abbrev pub invariant-loop-index : goal.invariant-loop-index
invariant-loop-index l = record {
  live : map (λ (e : Entry Uid). e.item.0) l.live.items ≡ filter (is_live l.graph) (map (λ (n : Node). n.uid.0) (take l.index l.graph.nodes));
  deep : All (λ (e : Entry Uid). e.group ≡ depth l.graph e.item.0) l.live.items;
}

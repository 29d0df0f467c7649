use Rattle.std.proofs.Common.{◌≡◌, map, take, filter}
use Rattle.graph_model.specs.Paths.{is_live}
use Rattle.graph_model.specs.declared.graph.Node.{Node}
use Rattle.plan_checker.proofs.live.live_uids.Given as goal

-- the live nodes so far
abbrev pub invariant-loop-index : goal.invariant-loop-index
invariant-loop-index l = l.live.items ≡ filter (is_live l.g) (map (λ (n : Node). n.uid.0) (take l.index l.g.nodes))

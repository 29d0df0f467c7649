use Rattle.std.proofs.Common.{◌≡◌, ◌∷◌, map, take, filter}
use Rattle.graph_model.specs.Paths.{is_live}
use Rattle.graph_model.specs.declared.graph.Node.{Node}
use Rattle.alignment.proofs.points.points.Given as goal

-- the root, and the live nodes so far
abbrev pub invariant-loop-index : goal.invariant-loop-index
invariant-loop-index l = l.points.items ≡ 0 ∷ filter (is_live l.graph) (map (λ (n : Node). n.uid.0) (take l.index l.graph.nodes))

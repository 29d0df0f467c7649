use Rattle.graph_model.specs.Paths.{reach}
use Rattle.renderer.proofs.PositionFacts.{AreListed}
use Rattle.renderer.proofs.positions.reaches.Given as goal

-- the nodes so far
abbrev pub invariant-loop-index : goal.invariant-loop-index
invariant-loop-index l = AreListed l.checked (reach l.checked) l.index l.positions.items

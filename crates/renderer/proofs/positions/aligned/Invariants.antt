use Rattle.plan_model.specs.Alignments.{position_in}
use Rattle.renderer.proofs.PositionFacts.{AreListed}
use Rattle.renderer.proofs.positions.aligned.Given as goal

-- the nodes so far
abbrev pub invariant-loop-node : goal.invariant-loop-node
invariant-loop-node l = AreListed l.checked (position_in l.at) l.node-index l.positions.items

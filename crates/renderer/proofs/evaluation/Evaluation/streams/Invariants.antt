use Rattle.renderer.proofs.OrderStepFacts.{AreFound}
use Rattle.renderer.proofs.evaluation.Evaluation.streams.Given as goal

-- the nodes so far
abbrev pub invariant-loop-index : goal.invariant-loop-index
invariant-loop-index l = AreFound l.self l.order l.index-index l.streams.items

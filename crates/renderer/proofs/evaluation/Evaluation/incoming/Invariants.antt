use Rattle.renderer.proofs.SumFacts.{AreSums}
use Rattle.renderer.proofs.evaluation.Evaluation.incoming.Given as goal

-- what the connections so far bring
abbrev pub invariant-loop-route : goal.invariant-loop-route
invariant-loop-route l = AreSums l.self l.node l.route-index l.sums.items

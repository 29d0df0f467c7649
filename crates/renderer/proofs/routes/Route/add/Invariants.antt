use Rattle.renderer.proofs.AddingFacts.{IsAddedUpTo}
use Rattle.renderer.proofs.routes.Route.add.Given as goal

-- the frames so far
abbrev pub invariant-loop-time : goal.invariant-loop-time
invariant-loop-time l = IsAddedUpTo l.time l.frames l.self l.stream l.initial.sums l.sums

use Rattle.engine.proofs.BeginFacts.{Beginning}
use Rattle.engine.proofs.output.begin_all.Given as goal

abbrev pub invariant-loop-i : goal.invariant-loop-i
invariant-loop-i l = Beginning l.frames l.fn.jobs l.i l.jobs

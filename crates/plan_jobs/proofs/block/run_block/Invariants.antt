use Rattle.plan_jobs.proofs.TurnFacts.{Turning}
use Rattle.plan_jobs.proofs.block.run_block.Given as goal

abbrev pub invariant-loop-end : goal.invariant-loop-end
invariant-loop-end g l = Turning l.stage.input.now l.stage.channels l.ends l.frames l.fn.jobs l.fn.pool l.end-index l.start l.jobs l.pool

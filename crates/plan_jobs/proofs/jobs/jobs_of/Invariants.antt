use Rattle.plan_jobs.specs.Blocks.{nodes_before}
use Rattle.plan_jobs.specs.Jobs.{AreNewJobs}
use Rattle.plan_jobs.specs.Blocks.{AreEnds}
use Rattle.plan_jobs.proofs.jobs.jobs_of.Given as goal

abbrev pub invariant-loop-wave : goal.invariant-loop-wave
invariant-loop-wave l = AreNewJobs l.checked l.plan (nodes_before l.plan l.wave-index) l.jobs.items × AreEnds l.plan l.wave-index l.ends.items

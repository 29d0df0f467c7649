use Rattle.std.proofs.Common.{ℕ, List, ◌++◌, take}
use Rattle.plan_model.specs.Schedules.{names}
use Rattle.plan_jobs.specs.Jobs.{AreNewJobs}
use Rattle.plan_jobs.proofs.jobs.with_wave.Given as goal

abbrev pub invariant-loop-uid : goal.invariant-loop-uid
invariant-loop-uid l = (vs : List ℕ) → AreNewJobs l.checked l.plan vs l.fn.jobs.items → AreNewJobs l.checked l.plan (vs ++ take l.uid-index (names l.wave)) l.jobs.items

use Rattle.std.proofs.Common.{◌+◌, ◌++◌, List, take, get_or, sym, ap, subst, length, arith, ◌<◌}
use Rattle.graph_model.specs.declared.graph.Uid.{Uid}
use Rattle.plan_model.specs.Schedules.{names}
use Rattle.pool_waves.specs.declared.job.Job.{Job}
use Rattle.players.specs.declared.playing.Player.{Player}
use Rattle.plan_jobs.specs.Jobs.{IsNewJob, AreNewJobs}
use Rattle.plan_jobs.proofs.JobFacts.{wave_more}
use Rattle.plan_jobs.proofs.jobs.with_wave.Goals as goal

pub loop-uid-preserved : goal.loop-uid-preserved
loop-uid-preserved c = λ vs made.
    let lt : c.loop-uid.uid-index < length c.args.wave.now.nodes = omega (arith, c.loop-uid-test.true, ap length c.as_slice-uid-items.ensures) in
    subst (λ (z : List (Job Player)). AreNewJobs c.args.checked.now c.args.plan.now (vs ++ take (c.loop-uid.uid-index + 1) (names c.args.wave.now)) z) (sym c.in_ok-push.ensures.items)
    (wave_more c.args.checked.now c.args.plan.now c.args.jobs.items c.args.wave.now.nodes c.loop-uid.uid-index c.loop-uid.jobs.items c.in_ok-job_of.field-0 (record { 0 = 0 }) lt c.loop-uid.invariant
    (subst (λ (xs : List Uid). IsNewJob c.args.checked.now c.args.plan.now (get_or xs c.loop-uid.uid-index (record { 0 = 0 })).0 c.in_ok-job_of.field-0) c.as_slice-uid-items.ensures c.in_ok-job_of.ensures) vs made)

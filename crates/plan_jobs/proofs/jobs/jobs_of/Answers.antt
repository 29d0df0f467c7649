use Rattle.std.proofs.Common.{◌≡◌, ℕ, ◌+◌, ◌++◌, ◌<◌, List, get_or, length, sym, ◌∙◌, ap, subst, arith, true}
use Rattle.std.specs.List.{All}
use Rattle.graph_model.specs.Paths.{is_live}
use Rattle.graph_model.specs.declared.graph.Uid.{Uid}
use Rattle.plan_model.specs.Schedules.{names}
use Rattle.plan_model.specs.declared.schedule.Wave.{Wave}
use Rattle.plan_jobs.specs.Blocks.{nodes_before}
use Rattle.plan_jobs.specs.Jobs.{AreNewJobs}
use Rattle.plan_jobs.specs.Blocks.{AreEnds}
use Rattle.plan_jobs.proofs.JobFacts.{wave_live, waves_more, one_end}
use Rattle.plan_jobs.proofs.jobs.jobs_of.Goals as goal

pub with_wave-requires-clause-live : goal.with_wave-requires-clause-live
with_wave-requires-clause-live c =
    let at : c.wave-item.result ≡ get_or c.args.plan.now.waves c.loop-wave.wave-index c.wave-item.result = c.wave-item.is ∙ ap (λ (xs : List Wave). get_or xs c.loop-wave.wave-index c.wave-item.result) c.as_slice-wave-items.ensures in
    let lt : c.loop-wave.wave-index < length c.args.plan.now.waves = omega (arith, c.loop-wave-test.true, ap length c.as_slice-wave-items.ensures) in
    subst (λ (w : Wave). All (λ (u : Uid). is_live c.args.checked.now u.0 ≡ true) w.nodes) (sym at) (wave_live c.args.checked.now c.args.plan.now c.graph-graph.ensures.sound c.requires.certified c.loop-wave.wave-index c.wave-item.result lt)

pub loop-wave-preserved : goal.loop-wave-preserved
loop-wave-preserved c =
    let at : c.wave-item.result ≡ get_or c.args.plan.now.waves c.loop-wave.wave-index c.wave-item.result = c.wave-item.is ∙ ap (λ (xs : List Wave). get_or xs c.loop-wave.wave-index c.wave-item.result) c.as_slice-wave-items.ensures in
    let lt : c.loop-wave.wave-index < length c.args.plan.now.waves = omega (arith, c.loop-wave-test.true, ap length c.as_slice-wave-items.ensures) in
    let made : AreNewJobs c.args.checked.now c.args.plan.now (nodes_before c.args.plan.now (c.loop-wave.wave-index + 1)) c.in_ok-jobs.jobs.items =
    waves_more c.args.checked.now c.args.plan.now c.loop-wave.wave-index c.wave-item.result c.in_ok-jobs.jobs.items lt
    (subst (λ (w : Wave). AreNewJobs c.args.checked.now c.args.plan.now (nodes_before c.args.plan.now c.loop-wave.wave-index ++ names w) c.in_ok-jobs.jobs.items) at
    (c.in_ok-jobs.ensures (nodes_before c.args.plan.now c.loop-wave.wave-index) c.loop-wave.invariant.0)) in (
      made,
      subst (λ (z : List ℕ). AreEnds c.args.plan.now (c.loop-wave.wave-index + 1) z) (sym c.in_ok-push.ensures.items)
          (one_end c.args.plan.now c.loop-wave.wave-index c.loop-wave.ends.items c.len.result c.loop-wave.invariant.1 (omega (arith, c.len.ensures, c.in_ok-jobs.jobs.ok.0, made.len))),
    )

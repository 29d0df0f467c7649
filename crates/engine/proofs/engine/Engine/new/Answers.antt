use Rattle.std.proofs.Common.{◌==◌, List, [], map, sym, ◌∙◌, ap, subst}
use Rattle.std.specs.Prelude.{is_some}
use Rattle.std.specs.List.{position}
use Rattle.graph_model.specs.declared.graph.Graph.{Graph}
use Rattle.plan_model.specs.declared.plan.Plan.{Plan}
use Rattle.pool_waves.specs.declared.job.Job.{Job}
use Rattle.players.specs.declared.playing.Player.{Player}
use Rattle.engine_model.specs.Engines.{Stands}
use Rattle.engine.specs.Views.{parts_of}
use Rattle.engine.specs.Working.{IsWorking}
use Rattle.engine.proofs.MadeFacts.{has_exit, new_works, new_stands}
use Rattle.engine.proofs.engine.Engine.new.Goals as goal

pub unwrap-requires : goal.unwrap-requires
unwrap-requires c =
    ap is_some (c.job_place.ensures
    ∙ ap (λ (js : List (Job Player)). position (λ (j : Job Player). j.node == c.uid-output.result.0) js) c.as_slice.ensures.value
    ∙ ap (λ v. position (λ (j : Job Player). j.node == v) c.in_ok-jobs.field-0.jobs.items) (c.uid-output.ensures ∙ c.output.ensures.name))
    ∙ has_exit c.args.checked.now c.args.plan.now c.graph-graph.ensures.sound c.requires.certified c.in_ok-jobs.field-0.jobs.items c.in_ok-jobs.ensures.jobs

pub invariant_of-result : goal.invariant_of-result
invariant_of-result c = (
  subst (λ (g : Graph). IsWorking g c.in_ok-copy-2.field-0 c.args.block 0 (record { ins = c.input_channels.result; outs = c.output_channels.result; exit = c.unwrap.result; ends = c.in_ok-jobs.field-0.ends; spares = c.in_ok-jobs.field-0.spares }) c.in_ok-jobs.field-0.jobs.items c.in_ok-pool.pool.items) (sym (c.in_ok-copy.ensures ∙ c.graph-graph.ensures.same))
      (subst (λ (p : Plan). IsWorking c.args.checked.now p c.args.block 0 (record { ins = c.input_channels.result; outs = c.output_channels.result; exit = c.unwrap.result; ends = c.in_ok-jobs.field-0.ends; spares = c.in_ok-jobs.field-0.spares }) c.in_ok-jobs.field-0.jobs.items c.in_ok-pool.pool.items) (sym c.in_ok-copy-2.ensures)
      (new_works c.args.checked.now c.args.plan.now c.graph-graph.ensures.sound c.requires.certified c.args.block c.requires.most c.in_ok-jobs.field-0.jobs.items c.in_ok-jobs.ensures.jobs (record { ins = c.input_channels.result; outs = c.output_channels.result; exit = c.unwrap.result; ends = c.in_ok-jobs.field-0.ends; spares = c.in_ok-jobs.field-0.spares }) c.in_ok-jobs.ensures.ends c.in_ok-pool.pool.items c.in_ok-pool.ensures
      c.input_channels.ensures.channels c.input_channels.ensures.least c.output_channels.ensures.channels c.output_channels.ensures.least
      (sym (c.job_place.ensures
      ∙ ap (λ (js : List (Job Player)). position (λ (j : Job Player). j.node == c.uid-output.result.0) js) c.as_slice.ensures.value
      ∙ ap (λ v. position (λ (j : Job Player). j.node == v) c.in_ok-jobs.field-0.jobs.items) (c.uid-output.ensures ∙ c.output.ensures.name)) ∙ c.unwrap.ensures))),
  c.in_ok-lines.ensures ∙ ap (λ (p : Plan). map (λ l. l.delay) p.lines) (sym c.in_ok-copy-2.ensures),
)

pub returns-clause-stands : goal.returns-clause-stands
returns-clause-stands c =
    subst (λ (g : Graph). Stands (parts_of g c.in_ok-copy-2.field-0 c.args.block 0 c.in_ok-jobs.field-0.jobs.items c.in_ok-pool.pool.items) []) (sym (c.in_ok-copy.ensures ∙ c.graph-graph.ensures.same))
    (subst (λ (p : Plan). Stands (parts_of c.args.checked.now p c.args.block 0 c.in_ok-jobs.field-0.jobs.items c.in_ok-pool.pool.items) []) (sym c.in_ok-copy-2.ensures)
    (new_stands c.args.checked.now c.args.plan.now c.graph-graph.ensures.sound c.requires.certified c.args.block c.requires.most c.in_ok-jobs.field-0.jobs.items c.in_ok-jobs.ensures.jobs (record { ins = c.input_channels.result; outs = c.output_channels.result; exit = c.unwrap.result; ends = c.in_ok-jobs.field-0.ends; spares = c.in_ok-jobs.field-0.spares }) c.in_ok-jobs.ensures.ends c.in_ok-pool.pool.items c.in_ok-pool.ensures))

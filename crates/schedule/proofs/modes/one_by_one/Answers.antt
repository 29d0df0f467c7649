use Rattle.std.proofs.Common.{◌∙◌, ◌∷◌, [], ap, filter, map}
use Rattle.std.proofs.lemmas.List.{take_all}
use Rattle.graph_model.specs.Named.{uid_at}
use Rattle.graph_model.specs.Paths.{is_live}
use Rattle.plan_model.proofs.ScheduleLaws.{one_by_one_is_schedule}
use Rattle.schedule.proofs.modes.one_by_one.Goals as goal

pub returns-clause-schedule : goal.returns-clause-schedule
returns-clause-schedule c =
    let g = c.args.graph.now in
    let all = take_all c.loop-index.index-index c.as_slice-index-items.result.now c.loop-index-test.false ∙ c.as_slice-index-items.ensures in
    one_by_one_is_schedule c.args.graph.now c.loop-index.waves c.graph.ensures.sound (
      map (uid_at c.args.graph.now) c.order.result.now,
      c.order.ensures.order,
      c.loop-index.invariant ∙ ap (λ xs. map (λ v. v ∷ []) (filter (is_live c.args.graph.now) (map (uid_at c.args.graph.now) xs))) all,
    )

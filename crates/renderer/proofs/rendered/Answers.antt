use Rattle.std.proofs.Common.{◌≡◌, length, sym, ◌∙◌, ap, subst}
use Rattle.std.proofs.lemmas.Result.{IfOk-weaker}
use Rattle.graph_model.specs.Answers.{incoming}
use Rattle.graph_model.specs.Graphs.{in_channels, output_name}
use Rattle.graph_model.specs.Histories.{frames_of, interleaved}
use Rattle.graph_model.specs.Paths.{is_live}
use Rattle.graph_model.specs.Sound.{IsSound}
use Rattle.plan_model.proofs.ShiftLaws.{positions_never_show}
use Rattle.graph_model.specs.Named.{uid_at}
use Rattle.renderer.specs.Positions.{position_at}
use Rattle.renderer.specs.Evaluations.{HasSources}
use Rattle.graph_model.proofs.LiveLaws.{output_is_live}
use Rattle.renderer.proofs.OrderStepFacts.{all_sources}
use Rattle.renderer.proofs.rendered.Goals as goal

pub incoming-requires-clause-live : goal.incoming-requires-clause-live
incoming-requires-clause-live c =
    ap (λ h. is_live h (uid_at h c.output.result)) c.in_ok-evaluation.ensures.graph
    ∙ ap (is_live c.args.graph.now) c.output.ensures.name
    ∙ output_is_live c.args.graph.now (subst IsSound c.in_ok-evaluation.ensures.graph c.in_ok-evaluation.ensures.state.sound)

pub incoming-requires-clause-count : goal.incoming-requires-clause-count
incoming-requires-clause-count c = ap (λ ss. length ss) c.deref.ensures.value ∙ c.in_ok-streams.ensures.count

pub incoming-requires-clause-sources : goal.incoming-requires-clause-sources
incoming-requires-clause-sources c =
    subst (λ ss. HasSources c.in_ok-evaluation.evaluation ss c.output.result) (sym c.deref.ensures.value)
    (all_sources c.in_ok-evaluation.evaluation c.in_ok-evaluation.ensures.state c.in_ok-streams.streams.items c.in_ok-streams.ensures c.output.result)

pub returns : goal.returns
returns c =
    let same = c.in_ok-evaluation.ensures in
    let sound : IsSound c.args.graph.now = subst IsSound c.in_ok-evaluation.ensures.graph c.in_ok-evaluation.ensures.state.sound in
    IfOk-weaker c.from_slice.result _ _
    (λ v e. e ∙ c.deref-2.ensures.value ∙ c.in_ok-output.ensures
    ∙ (λ i. interleaved (incoming (same.graph i) (position_at (same.graph i) (same.positions i)) (frames_of (in_channels (same.graph i)) (same.input i)) (uid_at (same.graph i) c.output.result)))
    ∙ ap (λ v. interleaved (incoming c.args.graph.now (position_at c.args.graph.now c.args.positions.now) (frames_of (in_channels c.args.graph.now) c.args.input.now) v)) c.output.ensures.name
    ∙ ap interleaved (positions_never_show c.args.graph.now (position_at c.args.graph.now c.args.positions.now) (frames_of (in_channels c.args.graph.now) c.args.input.now) sound c.requires.alignment))
    c.from_slice.ensures

use Rattle.std.proofs.Common.{◌∙◌, ap}
use Rattle.std.proofs.lemmas.Result.{IfOk-weaker}
use Rattle.graph_model.specs.Graphs.{in_channels, output_name}
use Rattle.graph_model.specs.Histories.{frames_of}
use Rattle.renderer.specs.Positions.{position_at}
use Rattle.renderer.proofs.AnswerFacts.{answer_in_place}
use Rattle.renderer.proofs.answer.Goals as goal

pub returns : goal.returns
returns c =
    let g = c.args.graph.now in
    IfOk-weaker c.rendered.result _ _
    (λ v e. e ∙ answer_in_place c.args.graph.now (position_at c.args.graph.now c.deref.result.now (output_name c.args.graph.now))
    (frames_of (in_channels c.args.graph.now) c.args.input.now)
    (ap (λ ps. position_at c.args.graph.now ps (output_name c.args.graph.now)) c.deref.ensures.value ∙ c.in_ok-positions.ensures.output))
    c.rendered.ensures

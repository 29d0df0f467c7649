use Rattle.std.proofs.Common.{◌≡◌, ◌-◌, ◌∙◌, ap}
use Rattle.std.proofs.lemmas.Result.{IfOk-weaker}
use Rattle.graph_model.specs.Answers.{answer}
use Rattle.graph_model.specs.Graphs.{in_channels, out_channels, output_name}
use Rattle.graph_model.specs.Histories.{frames_of, interleaved, shifted}
use Rattle.graph_model.specs.Paths.{latency_of_graph}
use Rattle.plan_model.specs.Alignments.{position_in}
use Rattle.renderer.specs.Positions.{position_at}
use Rattle.renderer.proofs.answer_at.Goals as goal

pub returns : goal.returns
returns c =
    let at : position_at c.args.graph.now c.deref.result.now (output_name c.args.graph.now) ≡ position_in c.args.at.now (output_name c.args.graph.now) =
    ap (λ ps. position_at c.args.graph.now ps (output_name c.args.graph.now)) c.deref.ensures.value ∙ c.in_ok-positions.ensures.output
    ∙ ap (λ xs. position_in xs (output_name c.args.graph.now)) c.as_slice.ensures in
    IfOk-weaker c.rendered.result _ _
    (λ v e. e ∙ ap (λ k. interleaved (shifted (k - latency_of_graph c.args.graph.now) (out_channels c.args.graph.now)
    (answer c.args.graph.now (frames_of (in_channels c.args.graph.now) c.args.input.now)))) at)
    c.rendered.ensures

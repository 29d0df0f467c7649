use Rattle.std.proofs.Common.{◌≡◌, ◌∙◌, ap}
use Rattle.std.proofs.lemmas.Result.{IfOk-weaker}
use Rattle.graph_model.specs.declared.graph.Graph.{Graph}
use Rattle.renderer.proofs.KindFacts.{between_ends, at_input, at_output, has_range, has_bound, whole, within, at_processor}
use Rattle.renderer.proofs.evaluation.Evaluation.outgoing.Goals as goal

pub returns-in-Input : goal.returns-in-Input
returns-in-Input c =
    let nodes : c.as_slice.result.now ≡ c.args.self.now.graph.now.nodes = c.as_slice.ensures ∙ ap (λ (g : Graph). g.nodes) c.graph.ensures.same in
    IfOk-weaker c.from_slice.result _ _
    (λ v e. e ∙ at_input c.args.self.now c.requires.state c.args.node c.requires.node c.as_slice.result.now c.index-as_slice-node.result nodes c.in-Input.channels c.in-Input.is) c.from_slice.ensures

pub returns-in-Output : goal.returns-in-Output
returns-in-Output c =
    let nodes : c.as_slice.result.now ≡ c.args.self.now.graph.now.nodes = c.as_slice.ensures ∙ ap (λ (g : Graph). g.nodes) c.graph.ensures.same in
    c.new.ensures ∙ at_output c.args.self.now c.requires.state c.args.node c.requires.node c.as_slice.result.now c.index-as_slice-node.result nodes c.in-Output.channels c.in-Output.is

pub outgoing-requires : goal.outgoing-requires
outgoing-requires c =
    let nodes : c.as_slice.result.now ≡ c.args.self.now.graph.now.nodes = c.as_slice.ensures ∙ ap (λ (g : Graph). g.nodes) c.graph.ensures.same in
    let p = between_ends _ c.in_default.not-Input c.in_default.not-Output in
    record {
      kind = p;
      range = has_range c.args.self.now c.requires.state c.args.node c.requires.node c.as_slice.result.now c.index-as_slice-node.result nodes;
      bound = has_bound c.args.self.now c.requires.state c.args.node c.requires.node c.as_slice.result.now c.index-as_slice-node.result nodes c.bound-bound.result.now c.bound-bound.ensures;
      whole = whole c.args.self.now c.requires.state c.args.node c.requires.node c.as_slice.result.now c.index-as_slice-node.result nodes c.deref.result.now (c.deref.ensures.value ∙ c.in_ok-incoming-in_default.ensures) p;
      within = within c.args.self.now c.requires.state c.args.node c.requires.node c.as_slice.result.now c.index-as_slice-node.result nodes c.deref.result.now (c.deref.ensures.value ∙ c.in_ok-incoming-in_default.ensures) p c.bound-bound.result.now c.bound-bound.ensures;
    }

pub returns-in_ok-incoming-in_default : goal.returns-in_ok-incoming-in_default
returns-in_ok-incoming-in_default c =
    let nodes : c.as_slice.result.now ≡ c.args.self.now.graph.now.nodes = c.as_slice.ensures ∙ ap (λ (g : Graph). g.nodes) c.graph.ensures.same in
    let p = between_ends _ c.in_default.not-Input c.in_default.not-Output in
    IfOk-weaker c.outgoing.result _ _
    (λ v e. e ∙ at_processor c.args.self.now c.requires.state c.args.node c.requires.node c.as_slice.result.now c.index-as_slice-node.result nodes c.deref.result.now (c.deref.ensures.value ∙ c.in_ok-incoming-in_default.ensures) p)
    c.outgoing.ensures

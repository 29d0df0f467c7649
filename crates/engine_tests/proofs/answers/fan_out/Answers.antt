use Rattle.std.proofs.Common.{◌≡◌, List, [], ◌∷◌, map, sym, ◌∙◌, subst}
use Rattle.plan_model.specs.Alignments.{IsAlignment, position_in}
use Rattle.plan_model.specs.Rules.{AreLiveNodes}
use Rattle.plan_model.specs.declared.alignment.At.{At}
use Rattle.graph_model.specs.declared.graph.Graph.{Graph}
use Rattle.test_graphs.specs.Graphs.{fan_out}
use Rattle.engine_tests.proofs.AnswerFacts.{ending_at, all_named, all_after}
use Rattle.engine_tests.proofs.answers.fan_out.Goals as goal

pub returns-clause-nodes : goal.returns-clause-nodes
returns-clause-nodes c =
    let at : c.in_ok-at.at ≡ ending_at c.args.late =
    c.in_ok-at.ensures ∙ (λ i. c.stands.ensures i ∷ c.stands-2.ensures i ∷ c.stands-3.ensures i ∷ c.stands-4.ensures i ∷ []) in
    subst (λ (g : Graph). AreLiveNodes g (map (λ a. a.uid.0) c.in_ok-at.at)) (sym c.in_ok-graph.ensures.is)
    (subst (λ (ats : List At). AreLiveNodes fan_out (map (λ a. a.uid.0) ats)) (sym at) (all_named c.args.late))

pub returns-clause-alignment : goal.returns-clause-alignment
returns-clause-alignment c =
    let at : c.in_ok-at.at ≡ ending_at c.args.late =
    c.in_ok-at.ensures ∙ (λ i. c.stands.ensures i ∷ c.stands-2.ensures i ∷ c.stands-3.ensures i ∷ c.stands-4.ensures i ∷ []) in
    subst (λ (g : Graph). IsAlignment g (position_in c.in_ok-at.at)) (sym c.in_ok-graph.ensures.is)
    (subst (λ (ats : List At). IsAlignment fan_out (position_in ats)) (sym at) (all_after c.args.late c.requires.after))

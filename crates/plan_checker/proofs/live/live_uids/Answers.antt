use Rattle.std.proofs.Common.{◌≡◌, ◌≤◌, ◌∙◌, ap, subst, length, map, filter, take}
use Rattle.std.proofs.lemmas.List.{take_all}
use Rattle.graph_model.specs.Paths.{is_live}
use Rattle.graph_model.specs.declared.graph.Node.{Node}
use Rattle.graph_model.specs.declared.graph.Graph.{Graph}
use Rattle.plan_checker.proofs.live.live_uids.Goals as goal

pub returns-clause-live : goal.returns-clause-live
returns-clause-live c =
    let g = c.args.g.now in
    let nodes : c.as_slice-node-items.result.now ≡ g.nodes = c.as_slice-node-items.ensures ∙ ap (λ (h : Graph). h.nodes) c.graph.ensures.same in
    let all : take c.loop-index.index g.nodes ≡ g.nodes = take_all c.loop-index.index g.nodes (subst (λ ns. length ns ≤ c.loop-index.index) nodes c.loop-index-test.false) in
    c.loop-index.invariant ∙ ap (λ ns. filter (is_live g) (map (λ (n : Node). n.uid.0) ns)) all

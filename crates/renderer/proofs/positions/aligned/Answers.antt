use Rattle.std.proofs.Common.{◌≡◌, length, ◌∙◌, ap, subst, arith}
use Rattle.graph_model.specs.declared.graph.Graph.{Graph}
use Rattle.plan_model.specs.Alignments.{position_in}
use Rattle.renderer.proofs.PositionFacts.{AreListed, aligned}
use Rattle.renderer.proofs.positions.aligned.Goals as goal

pub returns : goal.returns
returns c =
    let nodes : length c.as_slice-node-items.result.now ≡ length c.args.checked.now.nodes =
    ap (λ ns. length ns) (c.as_slice-node-items.ensures ∙ ap (λ (g : Graph). g.nodes) c.graph.ensures.same) in
    let all : c.loop-node.node-index ≡ length c.args.checked.now.nodes =
    (let past = c.loop-node-test.false in let within = c.loop-node.auto.node-index-end in omega arith) in
    aligned c.args.checked.now c.graph.ensures.sound (position_in c.args.at.now) c.loop-node.positions.items
    (subst (λ k. AreListed c.args.checked.now (position_in c.args.at.now) k c.loop-node.positions.items) all c.loop-node.invariant) c.requires

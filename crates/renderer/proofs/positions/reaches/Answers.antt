use Rattle.std.proofs.Common.{◌≡◌, length, ◌∙◌, ap, subst, arith}
use Rattle.graph_model.specs.Paths.{reach}
use Rattle.graph_model.specs.declared.graph.Graph.{Graph}
use Rattle.renderer.proofs.PositionFacts.{AreListed, aligned, reach_is}
use Rattle.renderer.proofs.positions.reaches.Goals as goal

pub returns : goal.returns
returns c =
    let nodes : c.len-index-end.result ≡ length c.args.checked.now.nodes =
    c.len-index-end.ensures ∙ ap (λ (g : Graph). length g.nodes) c.graph.ensures.same in
    let all : c.loop-index.index ≡ length c.args.checked.now.nodes =
    (let past = c.loop-index-test.false in let within = c.loop-index.auto.index-end in omega arith) in
    aligned c.args.checked.now c.graph.ensures.sound (reach c.args.checked.now) c.loop-index.positions.items
    (subst (λ k. AreListed c.args.checked.now (reach c.args.checked.now) k c.loop-index.positions.items) all c.loop-index.invariant)
    (reach_is c.args.checked.now c.graph.ensures.sound)

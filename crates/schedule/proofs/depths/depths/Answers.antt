use Rattle.std.proofs.Common.{◌∙◌, suc, get_or, map}
use Rattle.graph_model.specs.Paths.{greatest}
use Rattle.schedule.proofs.DepthFacts.{all_deep, deep_more}
use Rattle.schedule.proofs.depths.depths.Goals as goal

pub loop-node-preserved : goal.loop-node-preserved
loop-node-preserved c =
    let order = rw (← c.as_slice-node-items.ensures) at c.order.ensures in
    deep_more c.args.graph.now c.graph.ensures.sound c.as_slice-node-items.result.now order c.in_ok-sources.sources.items c.in_ok-sources.ensures
    c.loop-node.node-index c.depth_after.result c.loop-node.depths.items c.index.result.now c.loop-node-test.true c.loop-node.invariant c.index.ensures
    (c.depth_after.ensures ∙ (λ i. greatest (map (λ s. suc (get_or (c.deref.ensures.value i) s 0)) (c.as_slice.ensures i))))

pub returns-clause-depths : goal.returns-clause-depths
returns-clause-depths c =
    let order = rw (← c.as_slice-node-items.ensures) at c.order.ensures in
    all_deep c.args.graph.now c.graph.ensures.sound c.as_slice-node-items.result.now order c.in_ok-sources.sources.items c.in_ok-sources.ensures
    c.loop-node.node-index c.loop-node.depths.items c.loop-node-test.false c.loop-node.invariant

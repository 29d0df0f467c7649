use Rattle.std.proofs.Common.{get_or, sym, subst}
use Rattle.topology.specs.Answers.{IsOrderOfNodes}
use Rattle.renderer.specs.Evaluations.{HasSources}
use Rattle.renderer.proofs.OrderStepFacts.{sources_found, found_all}
use Rattle.renderer.proofs.evaluation.Evaluation.streams.Goals as goal

pub outgoing-requires-clause-sources : goal.outgoing-requires-clause-sources
outgoing-requires-clause-sources c =
    let e = c.args.self.now in
    let order = subst (IsOrderOfNodes c.args.self.now.graph.now) (sym c.as_slice-order.ensures) c.order.ensures in
    subst (λ ss. HasSources c.args.self.now ss (get_or c.as_slice-order.result.now c.loop-index.index-index 0)) (sym c.deref.ensures.value)
    (sources_found c.args.self.now c.requires c.as_slice-order.result.now order c.loop-index.index-index c.loop-index.streams.items c.loop-index-test.true c.loop-index.invariant)

pub returns : goal.returns
returns c =
    let order = subst (IsOrderOfNodes c.args.self.now.graph.now) (sym c.as_slice-order.ensures) c.order.ensures in
    found_all c.args.self.now c.requires c.as_slice-order.result.now order c.loop-index.index-index c.loop-index.streams.items c.loop-index-test.false c.loop-index.invariant

use Rattle.std.proofs.Common.{arith, ap, length, ◌∙◌}
use Rattle.std.proofs.lemmas.Result.{IfOk-weaker}
use Rattle.graph_model.specs.Graphs.{ins_at}
use Rattle.topology.proofs.LinkFacts.{any_connection}
use Rattle.headroom.proofs.FoundFacts.{source_found, destination_channel, sum_below, all_sums}
use Rattle.headroom.proofs.found.inputs_of.Goals as goal

pub bound_over-requires-clause-found : goal.bound_over-requires-clause-found
bound_over-requires-clause-found c =
    source_found c.args.graph.now c.args.found.now c.args.node.now.uid.0 c.as_slice-connection-items.result.now c.as_slice-connection-items.ensures c.requires.sources
    c.loop-connection.connection-index _ c.loop-connection-test.true c.if-connection-node.true

pub overflow_add-index_mut : goal.overflow_add-index_mut
overflow_add-index_mut c =
    let cs = c.as_slice-connection-items.result.now in
    let count = ap length c.as_slice-connection-items.ensures in
    let few = c.requires.fits.1 in
    let past = c.loop-connection.auto.connection-index-end in
    let channel = destination_channel c.args.graph.now c.requires.shaped cs c.as_slice-connection-items.ensures c.loop-connection.connection-index any_connection c.loop-connection-test.true in
    let into = ap (ins_at c.args.graph.now) c.if-connection-node.true in
    let ins = c.loop-connection.invariant.count in
    let sum = sum_below c.args.graph.now c.args.node.now.uid.0 c.loop-connection.connection-index c.loop-connection.ins.items _ c.index_mut.result.now (omega arith) c.loop-connection.invariant (omega arith) c.index_mut.ensures.value in
    let more = c.bound_over.ensures.small in
    omega arith

pub returns : goal.returns
returns c =
    let count = ap length c.as_slice-connection-items.ensures in
    let past = c.loop-connection-test.false in
    let is = all_sums c.args.graph.now c.args.node.now.uid.0 c.loop-connection.connection-index c.loop-connection.ins.items (omega arith) c.loop-connection.invariant in
    IfOk-weaker c.from_slice.result _ _ (λ ins e. e ∙ c.deref.ensures.value ∙ is) c.from_slice.ensures

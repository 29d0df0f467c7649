use Rattle.std.proofs.Common.{sym}
use Rattle.connections.proofs.NodeFacts.{is_twice, uid_is_new, all_uids}
use Rattle.connections.proofs.nodes.check_uids.Goals as goal

pub returns-in-Some : goal.returns-in-Some
returns-in-Some c =
    is_twice c.args.graph.now c.as_slice-nodes.result.now c.in-Some.first c.loop-second.second c.index-nodes-second.result c.as_slice-nodes.ensures c.loop-second-test.true c.loop-second.invariant
    (sym c.in-Some.ensures)

pub loop-second-preserved : goal.loop-second-preserved
loop-second-preserved c =
    uid_is_new c.as_slice-nodes.result.now c.loop-second.second c.index-nodes-second.result c.loop-second-test.true c.loop-second.invariant (sym c.in_default.ensures)

pub returns : goal.returns
returns c = all_uids c.as_slice-nodes.result.now c.args.graph.now.nodes c.loop-second.second c.loop-second-test.false c.as_slice-nodes.ensures c.loop-second.invariant

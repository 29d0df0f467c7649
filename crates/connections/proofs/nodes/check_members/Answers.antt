use Rattle.std.proofs.Common.{sym}
use Rattle.connections.proofs.NodeFacts.{is_out_of_range, one_more_good, all_good}
use Rattle.connections.proofs.nodes.check_members.Goals as goal

pub returns-in-Some : goal.returns-in-Some
returns-in-Some c = (
  c.requires,
  is_out_of_range c.args.graph.now c.as_slice-node-items.result.now c.in-Some.field c.loop-node.node-index c.node-item.result c.node-item.result c.as_slice-node-items.ensures
      c.loop-node-test.true c.node-item.is c.loop-node.invariant (sym c.in-Some.ensures),
)

pub loop-node-preserved : goal.loop-node-preserved
loop-node-preserved c =
    one_more_good c.as_slice-node-items.result.now c.args.graph.now.nodes c.loop-node.node-index c.node-item.result c.node-item.result c.as_slice-node-items.ensures
    c.loop-node-test.true c.node-item.is c.loop-node.invariant c.in_default.ensures

pub returns : goal.returns
returns c =
    all_good c.as_slice-node-items.result.now c.args.graph.now.nodes c.loop-node.node-index c.as_slice-node-items.ensures c.loop-node-test.false c.loop-node.invariant

use Rattle.topology.proofs.LinkFacts.{ends_exist}
use Rattle.topology.proofs.ends.links.Goals as goal

pub index_of-requires-clause-node : goal.index_of-requires-clause-node
index_of-requires-clause-node c =
    (ends_exist c.args.graph.now c.requires c.as_slice-connection-items.result.now c.as_slice-connection-items.ensures c.loop-connection.connection-index _ c.loop-connection-test.true).0

pub index_of-requires-in-loop-connection-clause-node : goal.index_of-requires-in-loop-connection-clause-node
index_of-requires-in-loop-connection-clause-node c =
    (ends_exist c.args.graph.now c.requires c.as_slice-connection-items.result.now c.as_slice-connection-items.ensures c.loop-connection.connection-index _ c.loop-connection-test.true).1

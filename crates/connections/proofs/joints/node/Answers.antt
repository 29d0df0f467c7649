use Rattle.std.proofs.Common.{sym}
use Rattle.topology.proofs.IndexFacts.{index_is}
use Rattle.connections.proofs.NodeFacts.{node_found}
use Rattle.connections.proofs.joints.node.Goals as goal

pub returns-in-Some : goal.returns-in-Some
returns-in-Some c =
    let at = index_is c.args.graph.now c.args.indexes.now c.args.uid.0 c.in-Some.index.now c.requires.indexes (sym c.in-Some.ensures.value) in
    node_found c.args.graph.now c.requires.fits c.requires.nodes.uids_differ c.as_slice.result.now c.args.uid.0 c.in-Some.index.now _ c.index-as_slice-index.result c.as_slice.ensures at
    c.index-as_slice-index.is

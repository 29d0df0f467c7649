use Rattle.std.proofs.Common.{ap, get_or}
use Rattle.std.proofs.lemmas.List.{get_or_default}
use Rattle.graph_model.specs.declared.graph.Node.{Node}
use Rattle.graph_model.proofs.NameFacts.{any_node}
use Rattle.topology.proofs.IndexFacts.{one_name, all_names}
use Rattle.topology.proofs.ends.indexes.Goals as goal

pub loop-index-preserved : goal.loop-index-preserved
loop-index-preserved c =
    let nodes = c.as_slice-nodes.result.now in
    let k = c.loop-index.index in
    let node = c.index-nodes-index.result in
    let is = ap (λ (n : Node). n.uid.0) (get_or_default nodes k node any_node c.loop-index-test.true) in
    one_name nodes k (get_or nodes k node).uid.0 is c.loop-index.indexes c.insert.new.self c.loop-index.invariant c.in_ok-insert.ensures.updates.0

pub returns : goal.returns
returns c =
    all_names c.args.graph.now c.as_slice-nodes.result.now c.loop-index.index c.loop-index.indexes c.as_slice-nodes.ensures c.loop-index-test.false c.loop-index.auto.index-end c.loop-index.invariant

use Rattle.std.proofs.Common.{◌≡◌, ◌∷◌, ◌++◌, [], rules}
use Rattle.serde_json.specs.View.{view}
use Rattle.graph_records.specs.Rows.{node_of}
use Rattle.graph_records.proofs.ListFacts.{read_none, read_more, read_fails, read_all, gives_passed}
use Rattle.graph_records.proofs.walk.read_nodes.Goals as goal

pub loop-index-init : goal.loop-index-init
loop-index-init c = rw c.new-nodes.ensures (read_none node_of view c.args.values.now)

pub loop-index-preserved : goal.loop-index-preserved
loop-index-preserved c =
    let grown : c.push.new.self ≡ c.loop-index.nodes ++ c.in_ok-node.node ∷ [] = search rules in
    rw grown (read_more node_of view c.args.values.now c.loop-index.index c.index-values-index.result c.loop-index.nodes c.in_ok-node.node
    c.loop-index.invariant c.loop-index-test.true c.index-values-index.is c.in_ok-node.ensures)

pub returns-in_err-node : goal.returns-in_err-node
returns-in_err-node c =
    gives_passed _ _ c.in_err-node.field-0.0 c.from_residual.result c.in_err-node.ensures
    (λ f is. read_fails node_of view c.args.values.now c.loop-index.index c.index-values-index.result c.loop-index.nodes f c.loop-index.invariant c.loop-index-test.true
    c.index-values-index.is is) c.from_residual.ensures.1

pub returns : goal.returns
returns c = read_all node_of view c.args.values.now c.loop-index.index c.loop-index.nodes c.loop-index.invariant c.loop-index-test.false

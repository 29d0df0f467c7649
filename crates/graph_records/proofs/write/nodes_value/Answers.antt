use Rattle.std.proofs.Common.{◌≡◌, ◌∙◌, ◌∷◌, ◌++◌, []}
use Rattle.serde_json.proofs.Views.{view-Array}
use Rattle.graph_records.specs.Typed.{IsTypedNode}
use Rattle.graph_records.specs.Written.{node_data}
use Rattle.graph_records.proofs.WrittenListFacts.{all_written, more_hold, more_written}
use Rattle.graph_records.proofs.write.nodes_value.Goals as goal

pub loop-node-preserved : goal.loop-node-preserved
loop-node-preserved c =
    let grown : c.push.new.self.items ≡ c.loop-node.values.items ++ c.in_ok-node_value.field-0 ∷ [] = c.in_ok-push.ensures.items in
    record {
      written = rw grown (more_written node_data c.args.nodes.now c.loop-node.node-index c.node-item.result c.loop-node.values.items c.in_ok-node_value.field-0
          c.loop-node.invariant.written c.loop-node-test.true c.node-item.is c.in_ok-node_value.ensures.value);
      typed = more_hold IsTypedNode c.args.nodes.now c.loop-node.node-index c.node-item.result c.loop-node.invariant.typed c.loop-node-test.true c.node-item.is
          c.in_ok-node_value.ensures.typed;
    }

pub returns-clause-value : goal.returns-clause-value
returns-clause-value c =
    view-Array c.loop-node.values ∙ all_written node_data c.args.nodes.now c.loop-node.node-index c.loop-node.values.items c.loop-node.invariant.written c.loop-node-test.false

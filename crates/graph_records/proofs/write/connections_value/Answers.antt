use Rattle.std.proofs.Common.{◌≡◌, ◌∙◌, ◌∷◌, ◌++◌, [], get_or}
use Rattle.std.proofs.lemmas.List.{get_or_default}
use Rattle.serde_json.proofs.Views.{view-Array}
use Rattle.graph_records.specs.Typed.{IsTypedConnection}
use Rattle.graph_records.specs.Written.{connection_data}
use Rattle.graph_records.proofs.WrittenListFacts.{all_written, more_hold, more_written, no_connection}
use Rattle.graph_records.proofs.write.connections_value.Goals as goal

pub loop-connection-preserved : goal.loop-connection-preserved
loop-connection-preserved c =
    let x = get_or c.args.connections.now c.loop-connection.connection-index no_connection in
    let here : x ≡ get_or c.args.connections.now c.loop-connection.connection-index x = get_or_default _ _ _ _ c.loop-connection-test.true in
    let grown : c.push.new.self.items ≡ c.loop-connection.values.items ++ c.in_ok-connection_value.field-0 ∷ [] = c.in_ok-push.ensures.items in
    record {
      written = rw grown (more_written connection_data c.args.connections.now c.loop-connection.connection-index x c.loop-connection.values.items c.in_ok-connection_value.field-0
          c.loop-connection.invariant.written c.loop-connection-test.true here c.in_ok-connection_value.ensures.value);
      typed = more_hold IsTypedConnection c.args.connections.now c.loop-connection.connection-index x c.loop-connection.invariant.typed c.loop-connection-test.true here
          c.in_ok-connection_value.ensures.typed;
    }

pub returns-clause-value : goal.returns-clause-value
returns-clause-value c =
    view-Array c.loop-connection.values ∙ all_written connection_data c.args.connections.now c.loop-connection.connection-index c.loop-connection.values.items c.loop-connection.invariant.written c.loop-connection-test.false

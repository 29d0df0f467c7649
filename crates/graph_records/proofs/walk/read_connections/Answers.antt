use Rattle.std.proofs.Common.{◌≡◌, ◌∷◌, ◌++◌, [], sym, rules}
use Rattle.serde_json.specs.View.{view}
use Rattle.graph_records.specs.Rows.{connection_of}
use Rattle.graph_records.proofs.ListFacts.{read_none, read_more, read_fails, read_all, gives_fault}
use Rattle.graph_records.proofs.walk.read_connections.Goals as goal

pub loop-index-init : goal.loop-index-init
loop-index-init c = rw c.new-connections.ensures (read_none connection_of view c.args.values.now)

pub loop-index-preserved : goal.loop-index-preserved
loop-index-preserved c =
    let grown : c.push.new.self ≡ c.loop-index.connections ++ c.in_ok-connection.connection ∷ [] = search rules in
    rw grown (read_more connection_of view c.args.values.now c.loop-index.index c.index-values-index.result c.loop-index.connections c.in_ok-connection.connection
    c.loop-index.invariant c.loop-index-test.true c.index-values-index.is (sym c.in_ok-connection.ensures))

pub returns-in_err-connection : goal.returns-in_err-connection
returns-in_err-connection c =
    gives_fault _ c.in_err-connection.field-0.0 c.from_residual.result
    (read_fails connection_of view c.args.values.now c.loop-index.index c.index-values-index.result c.loop-index.connections c.in_err-connection.field-0.0
    c.loop-index.invariant c.loop-index-test.true c.index-values-index.is (sym c.in_err-connection.ensures)) c.from_residual.ensures.1

pub returns : goal.returns
returns c = read_all connection_of view c.args.values.now c.loop-index.index c.loop-index.connections c.loop-index.invariant c.loop-index-test.false

use Rattle.serde_json.specs.View.{view}
use Rattle.graph_records.proofs.ReadBackLaws.{text_written, text_read_back}
use Rattle.graph_records.proofs.write.write_graph.Goals as goal

pub returns-clause-text : goal.returns-clause-text
returns-clause-text c =
    text_written c.args.graph.now (view c.in_ok-graph_value.field-0) c.to_vec.result c.in_ok-graph_value.ensures.value c.in_ok-graph_value.ensures.typed c.to_vec.ensures.text

pub returns-clause-read_back : goal.returns-clause-read_back
returns-clause-read_back c =
    text_read_back c.args.graph.now c.to_vec.result c.requires c.in_ok-graph_value.ensures.typed
    (text_written c.args.graph.now (view c.in_ok-graph_value.field-0) c.to_vec.result c.in_ok-graph_value.ensures.value c.in_ok-graph_value.ensures.typed c.to_vec.ensures.text)

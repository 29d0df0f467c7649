use Rattle.std.proofs.Common.{◌∙◌, sym, ap}
use Rattle.std.specs.Prelude.{is_some}
use Rattle.topology.proofs.OutputFacts.{output_found}
use Rattle.connections.proofs.LimitFacts.{latency_at_output}
use Rattle.connections.proofs.limits.latency_of.Goals as goal

pub unwrap-output-requires : goal.unwrap-output-requires
unwrap-output-requires c = ap is_some (c.output_index.ensures ∙ output_found c.args.graph.now c.requires.shaped.ends.1)

pub returns : goal.returns
returns c =
    latency_at_output c.args.graph.now c.as_slice.result.now c.unwrap-output.result c.requires.shaped (c.as_slice.ensures ∙ c.requires.reach.at) (sym c.output_index.ensures ∙ c.unwrap-output.ensures)

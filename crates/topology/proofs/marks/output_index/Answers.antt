use Rattle.std.proofs.Common.{◌∙◌, sym, ap}
use Rattle.std.specs.Prelude.{is_some}
use Rattle.topology.proofs.OutputFacts.{output_found, output_named}
use Rattle.topology.proofs.marks.output_index.Goals as goal

pub unwrap-requires : goal.unwrap-requires
unwrap-requires c = ap is_some (c.output_index.ensures ∙ output_found c.args.graph.now c.requires)

pub returns-clause-name : goal.returns-clause-name
returns-clause-name c = output_named c.args.graph.now c.requires c.unwrap.result (sym c.output_index.ensures ∙ c.unwrap.ensures)

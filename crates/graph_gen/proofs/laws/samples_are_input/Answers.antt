-- There are as many samples as are wanted, none too large.
use Rattle.graph_gen.proofs.SampleFacts.{samples_are_input}
use Rattle.graph_gen.proofs.laws.samples_are_input.Goals as goal

pub returns : goal.returns
returns c = samples_are_input

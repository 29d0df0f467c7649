-- A generated graph has as many nodes as are wanted, and two channels at either end.
use Rattle.graph_gen.proofs.SoundnessLaws.{generated_is_as_wanted}
use Rattle.graph_gen.proofs.laws.generated_is_as_wanted.Goals as goal

pub returns : goal.returns
returns c = generated_is_as_wanted

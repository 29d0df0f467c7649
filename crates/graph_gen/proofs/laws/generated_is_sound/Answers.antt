-- Every generated graph is sound.
use Rattle.graph_gen.proofs.SoundnessLaws.{generated_is_sound}
use Rattle.graph_gen.proofs.laws.generated_is_sound.Goals as goal

pub returns : goal.returns
returns c = generated_is_sound

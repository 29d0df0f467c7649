use Rattle.engine_model.proofs.NewJobLaws.{new_stand}
use Rattle.engine_model.proofs.laws.new_stands.Goals as goal

pub returns : goal.returns
returns c = new_stand

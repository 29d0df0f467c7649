use Rattle.engine_model.proofs.CuttingLaws.{outputs_are_answers}
use Rattle.engine_model.proofs.laws.outputs_are_answers.Goals as goal

pub returns : goal.returns
returns c = outputs_are_answers

use Rattle.engine_model.proofs.HeadroomLaws.{delays_are_bounded}
use Rattle.engine_model.proofs.laws.delays_are_bounded.Goals as goal

pub returns : goal.returns
returns c = delays_are_bounded

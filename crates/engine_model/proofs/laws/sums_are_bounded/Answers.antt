use Rattle.engine_model.proofs.HeadroomLaws.{sums_are_bounded}
use Rattle.engine_model.proofs.laws.sums_are_bounded.Goals as goal

pub returns : goal.returns
returns c = sums_are_bounded

use Rattle.engine_model.proofs.CuttingLaws.{no_cutting_shows}
use Rattle.engine_model.proofs.laws.no_cutting_shows.Goals as goal

pub returns : goal.returns
returns c = no_cutting_shows

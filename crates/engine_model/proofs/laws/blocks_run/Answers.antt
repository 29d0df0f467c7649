use Rattle.engine_model.proofs.OrderLaws.{blocks_run}
use Rattle.engine_model.proofs.laws.blocks_run.Goals as goal

pub returns : goal.returns
returns c = blocks_run

use Rattle.engine_model.proofs.EngineLaws.{orders_give}
use Rattle.engine_model.proofs.laws.orders_give_answers.Goals as goal

pub returns : goal.returns
returns c = orders_give

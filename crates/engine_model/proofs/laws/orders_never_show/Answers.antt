use Rattle.engine_model.proofs.OrderLaws.{orders_never_show}
use Rattle.engine_model.proofs.laws.orders_never_show.Goals as goal

pub returns : goal.returns
returns c = orders_never_show

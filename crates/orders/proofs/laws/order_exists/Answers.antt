use Rattle.orders.proofs.InTurnLaws.{order_exists}
use Rattle.orders.proofs.laws.order_exists.Goals as goal

pub returns : goal.returns
returns c = order_exists

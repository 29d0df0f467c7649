use Rattle.orders.proofs.CountLaws.{orders_agree}
use Rattle.orders.proofs.laws.orders_agree.Goals as goal

pub returns : goal.returns
returns g c = orders_agree

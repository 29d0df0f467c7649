use Rattle.orders.proofs.CountLaws.{orders_run}
use Rattle.orders.proofs.laws.orders_run.Goals as goal

pub returns : goal.returns
returns g c = orders_run

use Rattle.orders.proofs.CountLaws.{run_is_one}
use Rattle.orders.proofs.laws.run_is_one.Goals as goal

pub returns : goal.returns
returns g c = run_is_one

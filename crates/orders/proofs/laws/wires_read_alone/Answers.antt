use Rattle.orders.proofs.CountLaws.{wires_read_alone}
use Rattle.orders.proofs.laws.wires_read_alone.Goals as goal

pub returns : goal.returns
returns c = wires_read_alone

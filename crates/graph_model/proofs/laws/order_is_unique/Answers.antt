use Rattle.graph_model.proofs.OrderOnceLaws.{order_once as law}
use Rattle.graph_model.proofs.laws.order_is_unique.Goals as goal

pub returns : goal.returns
returns c = law

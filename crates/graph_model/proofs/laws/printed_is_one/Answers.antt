use Rattle.graph_model.proofs.PrintedLaws.{printed_is_one as law}
use Rattle.graph_model.proofs.laws.printed_is_one.Goals as goal

pub returns : goal.returns
returns c = law

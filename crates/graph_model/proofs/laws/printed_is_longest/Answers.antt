use Rattle.graph_model.proofs.PrintedLaws.{printed_is_longest as law}
use Rattle.graph_model.proofs.laws.printed_is_longest.Goals as goal

pub returns : goal.returns
returns c = law

use Rattle.graph_records.proofs.ReadBackLaws.{written_back}
use Rattle.graph_records.proofs.laws.written_is_read.Goals as goal

pub returns : goal.returns
returns c = λ g few typed. written_back g few typed

use Rattle.serde_json.specs.View.{view}
use Rattle.graph_records.specs.Numbers.{signed_in, whole_of}
use Rattle.graph_records.proofs.ListFacts.{IsReadTo}
use Rattle.graph_records.proofs.entry.numbers.Given as goal

abbrev pub invariant-loop-value : goal.invariant-loop-value
invariant-loop-value l = IsReadTo (λ _ d. signed_in l.place (whole_of d)) view l.values l.value-index l.numbers

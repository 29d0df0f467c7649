use Rattle.std.proofs.Common.{◌≡◌, map, take, All}
use Rattle.serde_json.specs.View.{view}
use Rattle.graph_records.specs.Typed.{IsI32}
use Rattle.graph_records.specs.Written.{signed_data}
use Rattle.graph_records.proofs.write.numbers_value.Given as goal

abbrev pub invariant-loop-number : goal.invariant-loop-number
invariant-loop-number l = record {
  written : map view l.values.items ≡ map signed_data (take l.number-index l.numbers);
  typed : All IsI32 (take l.number-index l.numbers);
}

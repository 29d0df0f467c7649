use Rattle.std.proofs.Common.{refl, map}
use Rattle.serde_json.specs.View.{view}
use Rattle.graph_records.proofs.ListFacts.{list_of-items_of}
use Rattle.graph_records.proofs.entry.items.Goals as goal

pub returns-in-Some : goal.returns-in-Some
returns-in-Some c = rw (c.as_slice.ensures.value, ← c.in-Some.ensures, list_of-items_of (map view c.in-Some.values.now.items)) refl

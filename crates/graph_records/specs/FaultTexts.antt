-- The texts of places.
use Rattle.std.specs.Prelude.{ℕ, List, ◌++◌, codes, decimal}
use Rattle.graph_model.specs.Members.{name_of}
use Rattle.graph_records.specs.declared.fault.Part.{Part}
use Rattle.graph_records.specs.declared.fault.Part.TheVariants as part
use Rattle.graph_records.specs.declared.fault.Place.{Place}

abbrev pub part_text : Part → List ℕ
part_text part.Top = codes "top"
part_text part.Filter = codes "filter"
part_text part.Link = codes "connection"

-- the part, the index and the member's name in JSON, with one space between them
abbrev pub place_text : Place → List ℕ
place_text p = part_text p.part ++ codes " " ++ decimal p.index ++ codes " " ++ name_of p.member

-- Records, and their members one by one.
use Rattle.std.specs.Prelude.{ℕ, ℤ, pos, suc, List, [], ◌∷◌, length, nat_le, if◌then◌else◌, ⊤, is_some, Option, Some, None, option_map, option_and_then, Result, Ok, Err}
use Rattle.serde_json.specs.Data.{Data, Items, no_items, item}
use Rattle.serde_json.specs.Find.{as_array, as_object, get}
use Rattle.serde_json.specs.View.{view}
use Rattle.graph_model.specs.Members.{name_of}
use Rattle.graph_model.specs.Refusals.{and_then, onto}
use Rattle.graph_model.specs.declared.member.Member.{Member}
use Rattle.graph_model.specs.declared.member.Member.TheVariants as member
use Rattle.graph_records.specs.Numbers.{whole_of, unsigned_in, signed_in}
use Rattle.graph_records.specs.declared.entry.Entry.{Entry}
use Rattle.graph_records.specs.declared.fault.Part.{Part}
use Rattle.graph_records.specs.declared.fault.Place.{Place}
use Rattle.graph_records.specs.declared.fault.RecordFault.{RecordFault}
use Rattle.graph_records.specs.declared.fault.RecordFault.TheVariants.{Shape, Limit}

-- first the one answer, and then what follows from it
abbrev pub taking : {A B : Type 0} → Result A RecordFault → (A → Result B RecordFault) → Result B RecordFault
taking r f = and_then f r

-- what f makes of each value and its place, from place i on: the first fault decides
abbrev pub each_from : {A : Type 0} → (ℕ → Data → Result A RecordFault) → ℕ → List Data → Result (List A) RecordFault
each_from f i [] = Ok []
each_from f i (d ∷ ds) = and_then (λ x. onto x (each_from f (suc i) ds)) (f i d)

abbrev pub list_of : Items → List Data
list_of no_items = []
list_of (item d ds) = d ∷ list_of ds

-- a value of the text that has to be a record, and where it stands
pub record Record : Type 0 where
  pub part : Part
  pub index : ℕ
  pub value : Data

-- the one that the code holds
abbrev pub record_of : Entry → Record
record_of e = record { part = e.part; index = e.index; value = view e.value.now }

abbrev pub place_of : Record → Member → Place
place_of r m = record { part = r.part; index = r.index; member = m }

abbrev pub or_shape : {A : Type 0} → Place → Option A → Result A RecordFault
or_shape place None = Err (Shape place)
or_shape place (Some x) = Ok x

abbrev pub unsigned_at : ℕ → Record → Member → Result ℕ RecordFault
unsigned_at most r m = unsigned_in most (place_of r m) (option_and_then whole_of (get (name_of m) r.value))

abbrev pub u32_at : Record → Member → Result ℕ RecordFault
u32_at = unsigned_at 4294967295

abbrev pub u64_at : Record → Member → Result ℕ RecordFault
u64_at = unsigned_at 18446744073709551615

abbrev pub i32_at : Record → Member → Result ℤ RecordFault
i32_at r m = signed_in (place_of r m) (option_and_then whole_of (get (name_of m) r.value))

-- the record is an object
abbrev pub object_at : Record → Result ⊤ RecordFault
object_at r = if is_some (as_object r.value) then Ok tt else Err (Shape (place_of r member.Item))

abbrev pub array_at : Record → Member → Result (List Data) RecordFault
array_at r m = or_shape (place_of r m) (option_map list_of (option_and_then as_array (get (name_of m) r.value)))

-- a list of numbers, in which each fault has the list's member as its place
abbrev pub i32s_at : Record → Member → Result (List ℤ) RecordFault
i32s_at r m = and_then (each_from (λ _ d. signed_in (place_of r m) (whole_of d)) 0) (array_at r m)

abbrev pub limited : Place → ℕ → List Data → Result (List Data) RecordFault
limited place most ds = if nat_le (length ds) most then Ok ds else Err (Limit place (pos (length ds)))

-- an array of at most so many values
abbrev pub list_in : ℕ → Record → Member → Result (List Data) RecordFault
list_in most r m = and_then (limited (place_of r m) most) (array_at r m)

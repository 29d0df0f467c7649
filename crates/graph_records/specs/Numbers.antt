-- The whole numbers of records.
use Rattle.std.specs.Prelude.{◌&&◌, ℕ, ℤ, pos, negsuc, nat_le, int_le, if◌then◌else◌, Option, Some, None, option_and_then, Result, Ok, Err}
use Rattle.serde_json.specs.Data.{Data}
use Rattle.serde_json.specs.Find.{as_integer, as_number}
use Rattle.graph_records.specs.declared.fault.Place.{Place}
use Rattle.graph_records.specs.declared.fault.RecordFault.{RecordFault}
use Rattle.graph_records.specs.declared.fault.RecordFault.TheVariants.{Shape, Limit}

-- the whole number that a value is: no fraction, no exponent, and within 64 bits
abbrev pub whole_of : Data → Option ℤ
whole_of d = option_and_then as_integer (as_number d)

-- a number from 0 to the greatest of its type
abbrev pub unsigned_in : ℕ → Place → Option ℤ → Result ℕ RecordFault
unsigned_in most place None = Err (Shape place)
unsigned_in most place (Some (negsuc n)) = Err (Limit place (negsuc n))
unsigned_in most place (Some (pos n)) = if nat_le n most then Ok n else Err (Limit place (pos n))

-- a number of 32 bits with a sign
abbrev pub signed_in : Place → Option ℤ → Result ℤ RecordFault
signed_in place None = Err (Shape place)
signed_in place (Some z) = if int_le (negsuc 2147483647) z && int_le z (pos 2147483647) then Ok z else Err (Limit place z)

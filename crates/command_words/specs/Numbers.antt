-- The numbers among the words.
use Rattle.std.specs.Prelude.{ℕ, ◌&&◌, ◌^◌, Bool, List, Option, Some, None, length, if◌then◌else◌, nat_lt, nat_le, option_and_then}
use Rattle.std.specs.List.{list_all}
use Rattle.std.specs.Char.{is_ascii_digit}
use Rattle.std.specs.Str.Parse.{digits_value}

-- 1 to 20 decimal digits
abbrev pub is_numeral : List ℕ → Bool
is_numeral t = nat_le (length t) 20 && (nat_lt 0 (length t) && list_all is_ascii_digit t)

-- their number, where it is below 2 ^ 64
abbrev pub number_of : List ℕ → Option ℕ
number_of t = if is_numeral t && nat_lt (digits_value 10 t) (2 ^ 64) then Some (digits_value 10 t) else None

-- a number that passes a test
abbrev pub number_that : (ℕ → Bool) → List ℕ → Option ℕ
number_that test t = option_and_then (λ n. if test n then Some n else None) (number_of t)

abbrev pub is_within : ℕ → ℕ → ℕ → Bool
is_within least greatest n = nat_le least n && nat_le n greatest

abbrev pub number_within : ℕ → ℕ → List ℕ → Option ℕ
number_within least greatest = number_that (is_within least greatest)

-- For private clauses: how numbers are read.
use Rattle.std.specs.Prelude.{◌≡◌, ◌<◌, ◌^◌, ◌&&◌, ◌==◌, ℕ, Bool, false, not, List, [], ◌∷◌, ◌++◌, length, nat_lt, slice_index, if◌then◌else◌, Option, Some, None}
use Rattle.std.specs.List.{All}
use Rattle.std.specs.Char.{is_ascii_digit}
use Rattle.std.specs.Fmt.{decimal}
use Rattle.std.specs.Str.Parse.{digits_value}
use Rattle.plan_text.specs.Lines.{spaced}

-- a zero before another digit
abbrev pub has_leading_zero : List ℕ → Bool
has_leading_zero ds = nat_lt 1 (length ds) && slice_index ds 0 == 48

abbrev pub is_canonical : List ℕ → Bool
is_canonical ds = nat_lt 0 (length ds) && not (has_leading_zero ds)

-- the number that digits write
abbrev pub value_of : List ℕ → Option ℕ
value_of ds = if is_canonical ds && nat_lt (digits_value 10 ds) (2 ^ 64) then Some (digits_value 10 ds) else None

abbrev pub NoDigitFirst : List ℕ → Type 0
NoDigitFirst [] = Unit {0}
NoDigitFirst (x ∷ xs) = is_ascii_digit x ≡ false

pub record BeginsWithNumber (text : List ℕ) (n : ℕ) (rest : List ℕ) : Type 0 where
  pub joined : text ≡ decimal n ++ rest
  pub below : n < 2 ^ 64
  pub stops : NoDigitFirst rest

abbrev pub NoNumber : List ℕ → Type 0
NoNumber text = (n : ℕ) (rest : List ℕ) → ¬ (BeginsWithNumber text n rest)

-- the numbers of a line, up to its end
pub record BeginsWithNumbers (text : List ℕ) (ns : List ℕ) (rest : List ℕ) : Type 0 where
  pub joined : text ≡ spaced ns ++ 10 ∷ rest
  pub below : All (λ n. n < 2 ^ 64) ns

abbrev pub NoNumbers : List ℕ → Type 0
NoNumbers text = (ns rest : List ℕ) → ¬ (BeginsWithNumbers text ns rest)

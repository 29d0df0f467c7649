-- What `parse` reads of 1 to 20 digits.
use Rattle.std.proofs.Common.{◌≡◌, ◌<◌, ◌^◌, ◌&&◌, ℕ, Bool, true, false, List, length, Result, Ok, Err, rules, arith, nat_lt, nat_le}
use Rattle.std.specs.List.{list_all}
use Rattle.std.specs.Char.{is_ascii_digit}
use Rattle.std.specs.Result.{result_ok}
use Rattle.std.specs.Str.Parse.{ParsesUnsigned, digits_value}
use Rattle.std.proofs.lemmas.Bool.Decides.{nat_tests}
use Rattle.std.proofs.lemmas.Str.Parse.{IsNumeralModel, IsDigitsTest, numerals_by_value, parse_digits}
use Rattle.command_words.specs.Numbers.{is_numeral, number_of}

tells : IsDigitsTest (λ ds. list_all is_ascii_digit ds ≡ true)
tells = search rules

own : IsNumeralModel (λ ds. list_all is_ascii_digit ds ≡ true) (digits_value 10)
own = numerals_by_value _ tells

-- the last of three tests that all hold
last : (a b d : Bool) → (a && (b && d)) ≡ true → d ≡ true
last true true d h = h
last true false d h = absurd (let bad : false ≡ true = h in cc)
last false b d h = absurd (let bad : false ≡ true = h in cc)

pub parsed : {E : Type 0} (t : List ℕ) (r : Result ℕ E) → ParsesUnsigned 64 10 t r → is_numeral t ≡ true → result_ok r ≡ number_of t
parsed {E} t (Ok x) h numeral =
    let digits : list_all is_ascii_digit t ≡ true = last (nat_le (length t) 20) (nat_lt 0 (length t)) _ numeral in
    let p : ((0 < length t) × (digits_value 10 t < 2 ^ 64)) × (x ≡ digits_value 10 t) = parse_digits own {E = E} 64 t (Ok x) h digits in
    rw numeral (grind (arith, nat_tests))
parsed {E} t (Err e) h numeral =
    let digits : list_all is_ascii_digit t ≡ true = last (nat_le (length t) 20) (nat_lt 0 (length t)) _ numeral in
    let no : (0 < length t) × (digits_value 10 t < 2 ^ 64) → ⊥ = parse_digits own {E = E} 64 t (Err e) h digits in
    rw numeral (grind (arith, nat_tests))

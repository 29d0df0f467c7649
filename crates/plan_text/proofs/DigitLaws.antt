-- Digits and the numbers that they write.
use Rattle.std.proofs.Common.{◌≡◌, ◌<◌, ◌^◌, ◌&&◌, ◌∙◌, ◌+◌, ◌==◌, lit<, ℕ, zero, suc, cond, get_or, not, ltb-true, Bool, if◌then◌else◌, true, false, List, [], ◌∷◌, ◌++◌, length, take, drop, Some, None, Result, Ok, Err, refl, sym, ap, ap₂, rules, arith, nat_lt}
use Rattle.std.specs.List.{list_all, prefix_len}
use Rattle.std.specs.Char.{is_ascii_digit}
use Rattle.std.specs.Fmt.{decimal}
use Rattle.std.specs.Result.{result_ok}
use Rattle.std.specs.Str.{IsUtf8}
use Rattle.std.specs.Str.Parse.{ParsesUnsigned, digits_value}
use Rattle.std.proofs.Math.Seq.{take-append_seam, drop-append_seam}
use Rattle.std.proofs.lemmas.Bool.{false≢true}
use Rattle.std.proofs.lemmas.List.{take-append-drop}
use Rattle.std.proofs.lemmas.Bool.Decides.{nat_tests}
use Rattle.std.proofs.lemmas.Fmt.{decimal-digits_value, digits_decimal, digits_value-decimal, first_decimal, decimal_nonempty, decimal_digit, IsAscii-from_digits, decimal_injective}
use Rattle.std.proofs.lemmas.Str.{IsUtf8-from_ascii}
use Rattle.std.proofs.lemmas.Str.Parse.{IsNumeralModel, IsDigitsTest, numerals_by_value, parse_digits}
use Rattle.plan_text.specs.Numbers.{has_leading_zero, is_canonical, value_of, BeginsWithNumber, NoDigitFirst, NoNumber}

tells : IsDigitsTest (λ ds. list_all is_ascii_digit ds ≡ true)
tells = search rules

own : IsNumeralModel (λ ds. list_all is_ascii_digit ds ≡ true) (digits_value 10)
own = numerals_by_value _ tells

pub value_parsed : {E : Type 0} (ds : List ℕ) (r : Result ℕ E) → ParsesUnsigned 64 10 ds r → list_all is_ascii_digit ds ≡ true → has_leading_zero ds ≡ false
    → result_ok r ≡ value_of ds
value_parsed {E} ds (Ok x) h digits plain =
    let p : ((0 < length ds) × (digits_value 10 ds < 2 ^ 64)) × (x ≡ digits_value 10 ds) = parse_digits own {E = E} 64 ds (Ok x) h digits in
    rw plain (grind (arith, nat_tests))
value_parsed {E} ds (Err e) h digits plain =
    let never : (0 < length ds) × (digits_value 10 ds < 2 ^ 64) → ⊥ = parse_digits own {E = E} 64 ds (Err e) h digits in
    rw plain (grind (arith, nat_tests))

pub digits_utf8 : (ds : List ℕ) → list_all is_ascii_digit ds ≡ true → IsUtf8 ds
digits_utf8 ds digits = IsUtf8-from_ascii ds (IsAscii-from_digits ds (own.to ds digits))

-- ---- the digits at the front

pub both : (a b : Bool) → (a && b) ≡ true → (a ≡ true) × (b ≡ true)
both true b e = (refl, e)
both false b e = absurd (false≢true e)

one_more : (n : ℕ) → 1 + n ≡ suc n
one_more n = omega arith

pub front_digits : (t : List ℕ) → list_all is_ascii_digit (take (prefix_len is_ascii_digit t) t) ≡ true
front_digits [] = refl
front_digits (x ∷ xs) = go (is_ascii_digit x) refl (front_digits xs)
  where
    go : (b : Bool) → is_ascii_digit x ≡ b → list_all is_ascii_digit (take (prefix_len is_ascii_digit xs) xs) ≡ true
        → list_all is_ascii_digit (take (cond b (1 + prefix_len is_ascii_digit xs) 0) (x ∷ xs)) ≡ true
    go true e rest = rw (one_more (prefix_len is_ascii_digit xs)) (rw e rest)
    go false e rest = refl

pub front_stops : (t : List ℕ) → NoDigitFirst (drop (prefix_len is_ascii_digit t) t)
front_stops [] = tt
front_stops (x ∷ xs) = go (is_ascii_digit x) refl (front_stops xs)
  where
    go : (b : Bool) → is_ascii_digit x ≡ b → NoDigitFirst (drop (prefix_len is_ascii_digit xs) xs)
        → NoDigitFirst (drop (cond b (1 + prefix_len is_ascii_digit xs) 0) (x ∷ xs))
    go true e rest = rw (one_more (prefix_len is_ascii_digit xs)) rest
    go false e rest = e

no_digits : (rest : List ℕ) → NoDigitFirst rest → prefix_len is_ascii_digit rest ≡ 0
no_digits [] stops = refl
no_digits (x ∷ xs) stops = rw stops refl

-- how many digits stand at the front
pub front_len : (ds rest : List ℕ) → list_all is_ascii_digit ds ≡ true → NoDigitFirst rest → prefix_len is_ascii_digit (ds ++ rest) ≡ length ds
front_len [] rest digits stops = no_digits rest stops
front_len (d ∷ ds) rest digits stops =
    let one : is_ascii_digit d ≡ true = (both (is_ascii_digit d) (list_all is_ascii_digit ds) digits).0 in
    let more = front_len ds rest (both (is_ascii_digit d) (list_all is_ascii_digit ds) digits).1 stops in
    rw (one, more) (omega arith)

-- where a text goes on after its digits is fixed
pub front_of : (ds rest : List ℕ) → list_all is_ascii_digit ds ≡ true → NoDigitFirst rest
    → (take (prefix_len is_ascii_digit (ds ++ rest)) (ds ++ rest) ≡ ds) × (drop (prefix_len is_ascii_digit (ds ++ rest)) (ds ++ rest) ≡ rest)
front_of ds rest digits stops = let e = front_len ds rest digits stops in
    (rw e (take-append_seam ds rest), rw e (drop-append_seam ds rest))

-- ---- digits and the number that they write

some_if : (b : Bool) (v n : ℕ) → Some n ≡ (if b then Some v else None) → (b ≡ true) × (n ≡ v)
some_if true v n e = (refl, cc)
some_if false v n e = let bad : ⊥ = cc in absurd bad

is_false : (b : Bool) → not b ≡ true → b ≡ false
is_false false e = refl
is_false true e = absurd (false≢true e)

single : (ds : List ℕ) → has_leading_zero ds ≡ false → 0 < length ds → get_or ds 0 0 ≡ 48 → length ds ≡ 1
single ds h some zero_first = let g : (nat_lt 1 (length ds) && (48 == 48)) ≡ false = rw zero_first at h in grind (arith, nat_tests)

not_led : (n : ℕ) → n < 2 ^ 64 → has_leading_zero (decimal n) ≡ false
not_led zero low = rw (decimal_digit 0 (lit< tt)) refl
not_led (suc n) low = let h : 48 < get_or (decimal (suc n)) 0 0 = first_decimal (suc n) (omega arith) low in grind (arith, nat_tests)

pub value_some : (ds : List ℕ) (n : ℕ) → list_all is_ascii_digit ds ≡ true → Some n ≡ value_of ds → (ds ≡ decimal n) × (n < 2 ^ 64)
value_some ds n digits is =
    let s = some_if _ (digits_value 10 ds) n is in
    let a = both (is_canonical ds) _ s.0 in
    let b = both (nat_lt 0 (length ds)) _ a.0 in
    let some : 0 < length ds = ltb-true 0 (length ds) b.0 in
    let low : digits_value 10 ds < 2 ^ 64 = ltb-true (digits_value 10 ds) (2 ^ 64) a.1 in
    let plain : get_or ds 0 0 ≡ 48 → length ds ≡ 1 = single ds (is_false (has_leading_zero ds) b.1) some in
    (rw s.1 (sym (decimal-digits_value own ds digits some plain low)), rw s.1 low)

pub value-decimal : (n : ℕ) → n < 2 ^ 64 → value_of (decimal n) ≡ Some n
value-decimal n low =
    let is : digits_value 10 (decimal n) ≡ n = digits_value-decimal own n low in
    let some : 0 < length (decimal n) = decimal_nonempty n low in
    let plain : has_leading_zero (decimal n) ≡ false = not_led n low in
    rw (is, plain) (grind (arith, nat_tests))

pub number_found : (t ds rest : List ℕ) (n : ℕ) → ds ≡ take (prefix_len is_ascii_digit t) t → rest ≡ drop (prefix_len is_ascii_digit t) t → Some n ≡ value_of ds
    → BeginsWithNumber t n rest
number_found t ds rest n d r is =
    let v = value_some ds n (rw d (front_digits t)) is in
    record {
      joined = sym (take-append-drop (prefix_len is_ascii_digit t) t) ∙ ap₂ (λ xs ys. xs ++ ys) (sym d ∙ v.0) (sym r);
      below = v.1;
      stops = rw r (front_stops t);
    }

pub number_missing : (t ds : List ℕ) → ds ≡ take (prefix_len is_ascii_digit t) t → None ≡ value_of ds → NoNumber t
number_missing t ds d is n rest h =
    let front : take (prefix_len is_ascii_digit t) t ≡ decimal n = rw h.joined (front_of (decimal n) rest (digits_decimal own n h.below) h.stops).0 in
    let bad : None ≡ Some n = is ∙ ap value_of (d ∙ front) ∙ value-decimal n h.below in
    let no : ⊥ = cc in absurd no

-- a number and what follows are fixed by the text
pub number_unique : (m n : ℕ) (a b : List ℕ) → m < 2 ^ 64 → n < 2 ^ 64 → NoDigitFirst a → NoDigitFirst b → decimal m ++ a ≡ decimal n ++ b → (m ≡ n) × (a ≡ b)
number_unique m n a b low_m low_n stops_a stops_b same =
    let x = front_of (decimal m) a (digits_decimal own m low_m) stops_a in
    let y = front_of (decimal n) b (digits_decimal own n low_n) stops_b in
    let digits : decimal m ≡ decimal n = sym x.0 ∙ ap (λ t. take (prefix_len is_ascii_digit t) t) same ∙ y.0 in
    (decimal_injective m n low_m low_n digits, sym x.1 ∙ ap (λ t. drop (prefix_len is_ascii_digit t) t) same ∙ y.1)

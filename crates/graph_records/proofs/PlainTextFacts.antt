-- The text of plain data is read as that data.
use Rattle.std.proofs.Common.{◌≡◌, ℕ, zero, suc, ◌≤◌, ◌<◌, ◌^◌, ◌∙◌, pos, negsuc, List, [], ◌∷◌, ◌++◌, Bool, true, false, ◌||◌, Some, option_and_then, IsUtf8, decimal, refl, sym, ap, arith, append-nil}
use Rattle.std.specs.Prelude.{⊤}
use Rattle.std.proofs.lemmas.Fmt.{IsAscii-decimal}
use Rattle.std.proofs.lemmas.Str.{IsUtf8-append, IsUtf8-from_ascii, IsUtf8-nil}
use Rattle.std.proofs.Common.{Option}
use Rattle.json.specs.Token.{Token}
use Rattle.json.specs.Lex.{tokens}
use Rattle.json.specs.Json as json
use Rattle.json.specs.Tree as tree
use Rattle.json.proofs.Printed.Decimals.{IsNumber-decimal, IsNumber-signed_decimal}
use Rattle.json.proofs.Printed.Tokens.{tokens-print}
use Rattle.json.proofs.Printed.Trees.{ArePrintable-json_tokens, value-json_tokens}
use Rattle.json.proofs.Printed.Utf8.{are_ascii, IsUtf8-are_ascii, IsUtf8-quoted, IsUtf8-boolean}
use Rattle.serde_json.specs.Data.{Num, unsigned, negative, float, Data, null, boolean, number, string, array, object, Items, no_items, item, Members, no_members, member}
use Rattle.serde_json.specs.Read.{of_json, max_depth, read}
use Rattle.serde_json.specs.Written.{compact_text, comma_if, has_float, items_have_float, items_outline, items_text, members_have_float, members_outline, members_text, number_text, outline}
use Rattle.serde_json.proofs.Texts.{print-outline}

-- a whole number within 64 bits
abbrev pub IsPlainNumber : Num → Type 0
IsPlainNumber (unsigned n) = n < 2 ^ 64
IsPlainNumber (negative (pos n)) = ⊥
IsPlainNumber (negative (negsuc n)) = suc n < 2 ^ 63
IsPlainNumber (float x) = ⊥

-- one level less
abbrev pub below : (ℕ → Type 0) → ℕ → Type 0
below P zero = ⊥
below P (suc k) = P k

-- ASCII and whole numbers, in at most so many levels
abbrev mutual
  pub IsPlain : Data → ℕ → Type 0
  IsPlain null k = ⊤
  IsPlain (boolean b) k = ⊤
  IsPlain (number n) k = IsPlainNumber n
  IsPlain (string s) k = are_ascii s ≡ true
  IsPlain (array ds) k = below (λ j. ArePlain ds j) k
  IsPlain (object ms) k = below (λ j. HavePlain ms j) k

  pub ArePlain : Items → ℕ → Type 0
  ArePlain no_items k = ⊤
  ArePlain (item d ds) k = IsPlain d k × ArePlain ds k

  pub HavePlain : Members → ℕ → Type 0
  HavePlain no_members k = ⊤
  HavePlain (member name d ms) k = (are_ascii name ≡ true) × IsPlain d k × HavePlain ms k

mutual
  pub plain_depth : (d : Data) (k : ℕ) → IsPlain d k → tree.depth (outline d) ≤ k
  plain_depth null k h = omega arith
  plain_depth (boolean b) k h = omega arith
  plain_depth (number n) k h = omega arith
  plain_depth (string s) k h = omega arith
  plain_depth (array ds) zero h = absurd h
  plain_depth (array ds) (suc k) h = omega (arith, plain_items_depth ds k h)
  plain_depth (object ms) zero h = absurd h
  plain_depth (object ms) (suc k) h = omega (arith, plain_members_depth ms k h)

  plain_items_depth : (ds : Items) (k : ℕ) → ArePlain ds k → tree.items_depth (items_outline ds) ≤ k
  plain_items_depth no_items k h = omega arith
  plain_items_depth (item d ds) k h = omega (arith, plain_depth d k h.0, plain_items_depth ds k h.1)

  plain_members_depth : (ms : Members) (k : ℕ) → HavePlain ms k → tree.members_depth (members_outline ms) ≤ k
  plain_members_depth no_members k h = omega arith
  plain_members_depth (member name d ms) k h = omega (arith, plain_depth d k h.1, plain_members_depth ms k h.2)

plain_number : (n : Num) → IsPlainNumber n → tree.HasNumbers (outline (number n))
plain_number (unsigned n) h = IsNumber-decimal n h
plain_number (negative (pos n)) h = absurd h
plain_number (negative (negsuc n)) h = IsNumber-signed_decimal (negsuc n) (let low : suc n < 2 ^ 63 = h in omega arith)
plain_number (float x) h = absurd h

mutual
  pub plain_numbers : (d : Data) (k : ℕ) → IsPlain d k → tree.HasNumbers (outline d)
  plain_numbers null k h = tt
  plain_numbers (boolean b) k h = tt
  plain_numbers (number n) k h = plain_number n h
  plain_numbers (string s) k h = tt
  plain_numbers (array ds) zero h = absurd h
  plain_numbers (array ds) (suc k) h = plain_items_numbers ds k h
  plain_numbers (object ms) zero h = absurd h
  plain_numbers (object ms) (suc k) h = plain_members_numbers ms k h

  plain_items_numbers : (ds : Items) (k : ℕ) → ArePlain ds k → tree.ItemsHaveNumbers (items_outline ds)
  plain_items_numbers no_items k h = tt
  plain_items_numbers (item d ds) k h = (plain_numbers d k h.0, plain_items_numbers ds k h.1)

  plain_members_numbers : (ms : Members) (k : ℕ) → HavePlain ms k → tree.MembersHaveNumbers (members_outline ms)
  plain_members_numbers no_members k h = tt
  plain_members_numbers (member name d ms) k h = (plain_numbers d k h.1, plain_members_numbers ms k h.2)

mutual
  pub plain_no_float : (d : Data) (k : ℕ) → IsPlain d k → has_float d ≡ false
  plain_no_float null k h = refl
  plain_no_float (boolean b) k h = refl
  plain_no_float (number (unsigned n)) k h = refl
  plain_no_float (number (negative z)) k h = refl
  plain_no_float (number (float x)) k h = absurd h
  plain_no_float (string s) k h = refl
  plain_no_float (array ds) zero h = absurd h
  plain_no_float (array ds) (suc k) h = plain_items_no_float ds k h
  plain_no_float (object ms) zero h = absurd h
  plain_no_float (object ms) (suc k) h = plain_members_no_float ms k h

  plain_items_no_float : (ds : Items) (k : ℕ) → ArePlain ds k → items_have_float ds ≡ false
  plain_items_no_float no_items k h = refl
  plain_items_no_float (item d ds) k h = ap (λ b. b || items_have_float ds) (plain_no_float d k h.0) ∙ plain_items_no_float ds k h.1

  plain_members_no_float : (ms : Members) (k : ℕ) → HavePlain ms k → members_have_float ms ≡ false
  plain_members_no_float no_members k h = refl
  plain_members_no_float (member name d ms) k h = ap (λ b. b || members_have_float ms) (plain_no_float d k h.1) ∙ plain_members_no_float ms k h.2

-- ---- the text is UTF-8

number_utf8 : (n : Num) → IsPlainNumber n → IsUtf8 (number_text n)
number_utf8 (unsigned n) h = IsUtf8-from_ascii (decimal n) (IsAscii-decimal n h)
number_utf8 (negative (pos n)) h = absurd h
number_utf8 (negative (negsuc n)) h = IsUtf8-append (45 ∷ []) (decimal (suc n)) (IsUtf8-are_ascii (45 ∷ []) refl) (IsUtf8-from_ascii (decimal (suc n)) (IsAscii-decimal (suc n) (omega arith)))
number_utf8 (float x) h = absurd h

comma_utf8 : (later : Bool) → IsUtf8 (comma_if later)
comma_utf8 true = IsUtf8-are_ascii (44 ∷ []) refl
comma_utf8 false = IsUtf8-nil

mutual
  pub plain_utf8 : (d : Data) (k : ℕ) → IsPlain d k → IsUtf8 (compact_text d)
  plain_utf8 null k h = IsUtf8-are_ascii (compact_text null) refl
  plain_utf8 (boolean b) k h = IsUtf8-boolean b
  plain_utf8 (number n) k h = number_utf8 n h
  plain_utf8 (string s) k h = IsUtf8-quoted s (IsUtf8-are_ascii s h)
  plain_utf8 (array ds) zero h = absurd h
  plain_utf8 (array ds) (suc k) h = IsUtf8-append (91 ∷ []) (items_text false ds) (IsUtf8-are_ascii (91 ∷ []) refl) (items_utf8 false ds k h)
  plain_utf8 (object ms) zero h = absurd h
  plain_utf8 (object ms) (suc k) h = IsUtf8-append (123 ∷ []) (members_text false ms) (IsUtf8-are_ascii (123 ∷ []) refl) (members_utf8 false ms k h)

  items_utf8 : (later : Bool) (ds : Items) (k : ℕ) → ArePlain ds k → IsUtf8 (items_text later ds)
  items_utf8 later no_items k h = IsUtf8-are_ascii (93 ∷ []) refl
  items_utf8 later (item d ds) k h =
      IsUtf8-append (comma_if later) (compact_text d ++ items_text true ds) (comma_utf8 later)
      (IsUtf8-append (compact_text d) (items_text true ds) (plain_utf8 d k h.0) (items_utf8 true ds k h.1))

  members_utf8 : (later : Bool) (ms : Members) (k : ℕ) → HavePlain ms k → IsUtf8 (members_text later ms)
  members_utf8 later no_members k h = IsUtf8-are_ascii (125 ∷ []) refl
  members_utf8 later (member name d ms) k h =
      IsUtf8-append (comma_if later) _ (comma_utf8 later)
      (IsUtf8-append _ (58 ∷ (compact_text d ++ members_text true ms)) (IsUtf8-quoted name (IsUtf8-are_ascii name h.0))
      (IsUtf8-append (58 ∷ []) (compact_text d ++ members_text true ms) (IsUtf8-are_ascii (58 ∷ []) refl)
      (IsUtf8-append (compact_text d) (members_text true ms) (plain_utf8 d k h.1) (members_utf8 true ms k h.2))))

-- ---- the text is read back

abbrev last_of : Option (json.Json × List Token) → Option Data
last_of o = option_and_then of_json (option_and_then (λ p. json.if_last p.0 p.1) o)

pub plain_read : (d : Data) (k : ℕ) → IsPlain d k → k ≤ max_depth → of_json (outline d) ≡ Some d → read (compact_text d) ≡ Some d
plain_read d k plain few back =
    ap last_of (ap (json.value max_depth)
    (ap tokens (sym (print-outline d)) ∙ tokens-print (tree.json_tokens (outline d)) (ArePrintable-json_tokens (outline d) (plain_numbers d k plain))
    ∙ sym (append-nil (tree.json_tokens (outline d))))
    ∙ value-json_tokens (outline d) max_depth [] (omega (arith, plain_depth d k plain))) ∙ back

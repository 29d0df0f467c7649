-- A loop that reads the values of a list in turn.
use Rattle.std.proofs.Common.{◌≡◌, Bool, true, false, Some, None, if◌then◌else◌, ◌<◌, ◌≤◌, ◌+◌, ◌∙◌, ℕ, suc, List, [], ◌∷◌, ◌++◌, map, length, drop, Result, Ok, Err, refl, sym, ap, append_assoc, append-nil, drop-cons, drop_of_length-le, add-one}
use Rattle.std.specs.List.{slice_index_or}
use Rattle.serde_json.specs.Data.{Data}
use Rattle.serde_json.specs.View.{items_of}
use Rattle.std.specs.Result.{IsErrAnd}
use Rattle.std.specs.Str.{is_utf8, IsUtf8}
use Rattle.std.proofs.lemmas.Str.{is_utf8-from_IsUtf8, IsUtf8-from_is_utf8}
use Rattle.serde_json.specs.Read.{read}
use Rattle.graph_model.specs.declared.refused.Refused.{Refused}
use Rattle.graph_model.specs.declared.refused.Refused.TheVariants.{Fault, Memory}
use Rattle.graph_model.specs.Refusals.{and_then, onto, Gives}
use Rattle.graph_records.specs.Entries.{each_from, list_of}
use Rattle.graph_records.specs.Walk.{graph_of, walk, walk_of}
use Rattle.graph_records.specs.declared.fault.RecordFault.{RecordFault}
use Rattle.graph_records.specs.declared.fault.RecordFault.TheVariants.{Text}

abbrev pub appended : {A : Type 0} → List A → Result (List A) RecordFault → Result (List A) RecordFault
appended found (Ok xs) = Ok (found ++ xs)
appended found (Err e) = Err e

appended-nil : {A : Type 0} (r : Result (List A) RecordFault) → appended [] r ≡ r
appended-nil (Ok xs) = refl
appended-nil (Err e) = refl

appended-onto : {A : Type 0} (found : List A) (x : A) (r : Result (List A) RecordFault)
    → appended found (onto x r) ≡ appended (found ++ x ∷ []) r
appended-onto found x (Ok xs) = ap (λ l. Ok l) (sym (append_assoc found (x ∷ []) xs))
appended-onto found x (Err e) = refl

-- `found` are the answers for the first i of xs
pub record IsReadTo {A X : Type 0} (f : ℕ → Data → Result A RecordFault) (v : X → Data) (xs : List X) (i : ℕ) (found : List A) : Type 0 where
  pub same : each_from f 0 (map v xs) ≡ appended found (each_from f i (map v (drop i xs)))

pub read_none : {A X : Type 0} (f : ℕ → Data → Result A RecordFault) (v : X → Data) (xs : List X) → IsReadTo f v xs 0 []
read_none f v xs = record { same = sym (appended-nil (each_from f 0 (map v xs))) }

here : {A X : Type 0} (f : ℕ → Data → Result A RecordFault) (v : X → Data) (xs : List X) (i : ℕ) (x : X) → i < length xs → x ≡ slice_index_or xs i x
    → each_from f i (map v (drop i xs)) ≡ and_then (λ a. onto a (each_from f (suc i) (map v (drop (suc i) xs)))) (f i (v x))
here f v xs i x lt at = ap (λ ys. each_from f i (map v ys)) (drop-cons xs i x lt)
    ∙ ap (λ y. and_then (λ a. onto a (each_from f (suc i) (map v (drop (suc i) xs)))) (f i (v y))) (sym at)

pub read_more : {A X : Type 0} (f : ℕ → Data → Result A RecordFault) (v : X → Data) (xs : List X) (i : ℕ) (x : X) (found : List A) (a : A)
    → IsReadTo f v xs i found → i < length xs → x ≡ slice_index_or xs i x → f i (v x) ≡ Ok a → IsReadTo f v xs (i + 1) (found ++ a ∷ [])
read_more f v xs i x found a h lt at ok = rw add-one (record {
  same = h.same ∙ ap (appended found) (here f v xs i x lt at
      ∙ ap (λ r. and_then (λ b. onto b (each_from f (suc i) (map v (drop (suc i) xs)))) r) ok) ∙ appended-onto found a (each_from f (suc i) (map v (drop (suc i) xs)));
})

pub read_fails : {A X : Type 0} (f : ℕ → Data → Result A RecordFault) (v : X → Data) (xs : List X) (i : ℕ) (x : X) (found : List A) (e : RecordFault)
    → IsReadTo f v xs i found → i < length xs → x ≡ slice_index_or xs i x → f i (v x) ≡ Err e → each_from f 0 (map v xs) ≡ Err e
read_fails f v xs i x found e h lt at fails = h.same ∙ ap (appended found) (here f v xs i x lt at
    ∙ ap (λ r. and_then (λ b. onto b (each_from f (suc i) (map v (drop (suc i) xs)))) r) fails)

pub read_all : {A X : Type 0} (f : ℕ → Data → Result A RecordFault) (v : X → Data) (xs : List X) (i : ℕ) (found : List A)
    → IsReadTo f v xs i found → length xs ≤ i → each_from f 0 (map v xs) ≡ Ok found
read_all f v xs i found h past = h.same ∙ ap (λ ys. appended found (each_from f i (map v ys))) (drop_of_length-le xs past) ∙ ap (λ l. Ok l) (append-nil found)

-- a fault that `?` passes on
pub gives_fault : {A : Type 0} (want : Result A RecordFault) (e : RecordFault) (r : Result A (Refused RecordFault)) → want ≡ Err e
    → IsErrAnd r (λ x. x ≡ Fault e) → Gives want r
gives_fault want e (Ok x) is passed = absurd passed
gives_fault want e (Err (Fault f)) is passed = is ∙ ap (λ y. Err y) (let same : f ≡ e = cc in sym same)
gives_fault want e (Err Memory) is passed = tt

pub list_of-items_of : (ds : List Data) → list_of (items_of ds) ≡ ds
list_of-items_of [] = refl
list_of-items_of (d ∷ ds) = ap (λ xs. d ∷ xs) (list_of-items_of ds)

-- ---- the text

pub walk_none : (bytes : List ℕ) → (IsUtf8 bytes → read bytes ≡ None) → walk bytes ≡ Err Text
unfolding walk
walk_none bytes never = go (is_utf8 bytes) refl
  where
    go : (b : Bool) → is_utf8 bytes ≡ b → walk_of (if b then read bytes else None) ≡ Err Text
    go true h = rw (never (IsUtf8-from_is_utf8 bytes h)) refl
    go false h = refl

pub walk_some : (bytes : List ℕ) (d : Data) → IsUtf8 bytes → read bytes ≡ Some d → walk bytes ≡ graph_of d
unfolding walk
walk_some bytes d utf8 is = rw (is_utf8-from_IsUtf8 bytes utf8, is) refl

-- an answer without a value that `?` passes on
pub gives_passed : {A B : Type 0} (want : Result A RecordFault) (piece : Result B RecordFault) (e : Refused RecordFault) (r : Result A (Refused RecordFault))
    → Gives piece (Err e) → ((f : RecordFault) → piece ≡ Err f → want ≡ Err f) → IsErrAnd r (λ x. x ≡ e) → Gives want r
gives_passed want piece (Fault f) r h onward passed = gives_fault want f r (onward f h) passed
gives_passed want piece Memory (Ok x) h onward passed = absurd passed
gives_passed want piece Memory (Err (Fault g)) h onward passed = let bad : ⊥ = cc in absurd bad
gives_passed want piece Memory (Err Memory) h onward passed = tt

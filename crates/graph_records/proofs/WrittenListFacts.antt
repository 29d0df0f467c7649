-- A loop that writes the items of a list in turn.
use Rattle.std.proofs.Common.{◌≡◌, ◌<◌, ◌≤◌, ◌+◌, ◌∙◌, ℕ, List, [], ◌∷◌, ◌++◌, map, length, take, get_or, sym, subst, ap, ap₂, All, take_all, ℤ, pos, negsuc, FitsSigned, w32, arith}
use Rattle.std.proofs.lemmas.List.{take_more, map-append}
use Rattle.std.proofs.lemmas.List.Elements.{All-push}
use Rattle.serde_json.specs.Data.{Data}
use Rattle.serde_json.specs.View.{view}
use Rattle.serde_json.specs.declared.value.Value.{Value}
use Rattle.graph_model.specs.declared.graph.Connection.{Connection}
use Rattle.graph_records.specs.Typed.{IsI32}
use Rattle.graph_records.specs.Written.{list_data}

-- one more item is written
pub more_written : {X : Type 0} (f : X → Data) (xs : List X) (i : ℕ) (x : X) (values : List Value) (v : Value)
    → map view values ≡ map f (take i xs) → i < length xs → x ≡ get_or xs i x → view v ≡ f x
    → map view (values ++ v ∷ []) ≡ map f (take (i + 1) xs)
more_written f xs i x values v done lt here is =
    map-append view values (v ∷ []) ∙ ap₂ (λ (a : List Data) d. a ++ d ∷ []) done (is ∙ ap f here)
    ∙ sym (ap (map f) (take_more xs i x lt) ∙ map-append f (take i xs) (get_or xs i x ∷ []))

pub more_hold : {X : Type 0} (P : X → Type 0) (xs : List X) (i : ℕ) (x : X) → All P (take i xs) → i < length xs → x ≡ get_or xs i x → P x → All P (take (i + 1) xs)
more_hold P xs i x done lt here is = rw (take_more xs i x lt) (All-push P (take i xs) (get_or xs i x) done (subst P here is))

pub all_written : {X : Type 0} (f : X → Data) (xs : List X) (i : ℕ) (values : List Value) → map view values ≡ map f (take i xs) → length xs ≤ i
    → list_data (map view values) ≡ list_data (map f xs)
all_written f xs i values done past = ap list_data (done ∙ ap (map f) (take_all i xs past))

-- what a read past the end gives
abbrev pub no_connection : Connection
no_connection = record { src = record { 0 = 0 }; src_channel = 0; dst = record { 0 = 0 }; dst_channel = 0 }

pub is_i32 : (z : ℤ) → FitsSigned w32 z → IsI32 z
is_i32 (pos n) fits = omega (arith, fits)
is_i32 (negsuc n) fits = omega (arith, fits)

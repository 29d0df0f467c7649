-- What is told of the bytes under a name.
use Rattle.std.proofs.Common.{◌≡◌, ℕ, ◌+◌, ◌-◌, ◌<◌, ◌≤◌, List, length, take, drop, Option, Some, None, refl, sym, ap, ◌∙◌, arith}
use Rattle.std.specs.Prelude.{slice_range, IfSome}
use Rattle.std.proofs.lemmas.List.{drop-take, take-take, drop-drop}
use Rattle.byteorder.specs.Endian.{little_number}
use Rattle.byteorder.specs.Numbers.{little_from-take}
use Rattle.gh_outside.specs.Holdings.{Holding, IsMissing, IsPast, HeldBytes}

some_more : (o : Option (List ℕ)) (P Q : List ℕ → Type 0) → ((bytes : List ℕ) → P bytes → Q bytes) → IfSome o P → IfSome o Q
some_more None P Q f p = tt
some_more (Some bytes) P Q f p = f bytes p

-- what follows from what is told
pub told_more : (name : List ℕ) (held : Option Holding) (P Q : List ℕ → Type 0) → ((bytes : List ℕ) → P bytes → Q bytes) → HeldBytes name held P → HeldBytes name held Q
told_more name None P Q f p = tt
told_more name (Some files) P Q f p = some_more (files name) P Q f p

some_both : (o : Option (List ℕ)) (P Q : List ℕ → Type 0) → IfSome o P → IfSome o Q → IfSome o (λ bytes. P bytes × Q bytes)
some_both None P Q p q = tt
some_both (Some bytes) P Q p q = (p, q)

-- two things that are told
pub told_both : (name : List ℕ) (held : Option Holding) (P Q : List ℕ → Type 0) → HeldBytes name held P → HeldBytes name held Q → HeldBytes name held (λ bytes. P bytes × Q bytes)
told_both name None P Q p q = tt
told_both name (Some files) P Q p q = some_both (files name) P Q p q

-- what is true of all bytes is told of these
pub told_always : (name : List ℕ) (held : Option Holding) (P : List ℕ → Type 0) → ((bytes : List ℕ) → P bytes) → HeldBytes name held P
told_always name None P f = tt
told_always name (Some files) P f = some_always (files name) P f
  where
    some_always : (o : Option (List ℕ)) (P : List ℕ → Type 0) → ((bytes : List ℕ) → P bytes) → IfSome o P
    some_always None P f = tt
    some_always (Some bytes) P f = f bytes

-- a place past the end is past it for a place beyond
pub past_more : (name : List ℕ) (held : Option Holding) (near far : ℕ) → near ≤ far → IsPast name near held → IsPast name far held
past_more name None near far e past = past
past_more name (Some files) near far e past = λ bytes is. let h = past bytes is in omega arith

some_there : (o : Option (List ℕ)) (size : ℕ) → ¬ (o ≡ None) → IfSome o (λ bytes. size ≡ length bytes) → ¬ ((bytes : List ℕ) → o ≡ Some bytes → length bytes < size)
some_there None size there is past = absurd (there refl)
some_there (Some bytes) size there is past = let h = past bytes refl in absurd (omega arith)

-- all bytes of a file are there
pub all_there : (name : List ℕ) (held : Option Holding) (size : ℕ) → ¬ IsMissing name held → HeldBytes name held (λ bytes. size ≡ length bytes) → ¬ IsPast name size held
all_there name None size there is past = past
all_there name (Some files) size there is past = some_there (files name) size there is past

-- a part of a piece of a file is a part of the file
pub part_in : (n k m from end : ℕ) (bytes piece : List ℕ) → end ≡ from + m → piece ≡ slice_range bytes from end → k + n ≤ m
    → take n (drop k piece) ≡ take n (drop (from + k) bytes)
part_in n k m from end bytes piece e is within =
    let long : end - from ≡ k + (m - k) = omega arith in
    ap (λ xs. take n (drop k xs)) is
    ∙ ap (λ x. take n (drop k (take x (drop from bytes)))) long
    ∙ ap (take n) (drop-take k (m - k) (drop from bytes))
    ∙ take-take n (m - k) (drop k (drop from bytes)) (omega arith)
    ∙ ap (take n) (drop-drop k from bytes)

-- so is a number
pub number_in : (n k m from end : ℕ) (bytes piece : List ℕ) → end ≡ from + m → piece ≡ slice_range bytes from end → k + n ≤ m
    → little_number n (drop k piece) ≡ little_number n (drop (from + k) bytes)
number_in n k m from end bytes piece e is within =
    sym (little_from-take 0 n n (drop k piece) (omega arith))
    ∙ ap (little_number n) (part_in n k m from end bytes piece e is within)
    ∙ little_from-take 0 n n (drop (from + k) bytes) (omega arith)

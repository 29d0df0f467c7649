-- Lists of which four places are written one after the other.
use Rattle.std.proofs.Common.{◌≡◌, ℕ, ◌+◌, ◌<◌, ◌≤◌, List, length, get_or, ℤ, pos, sym, ap, ◌∙◌, arith, ⊎_elim}
use Rattle.std.specs.Prelude.{slice_set}
use Rattle.std.proofs.lemmas.Bool.{cases_lt}
use Rattle.std.proofs.lemmas.Grind.{get_or-set_at}
use Rattle.std.proofs.lemmas.List.{length-set, get_or-set_other}
use Rattle.std.proofs.lemmas.List.Edits.{fill_by_more}

abbrev pub set_four : List ℤ → ℕ → ℤ → ℤ → ℤ → ℤ → List ℤ
set_four xs i a b c d = slice_set (slice_set (slice_set (slice_set xs i a) (i + 1) b) (i + 2) c) (i + 3) d

-- four more values of a function
pub fill_by_four : (f : ℕ → ℤ) (xs : List ℤ) (i : ℕ) (a b c d : ℤ) → i + 4 ≤ length xs
    → a ≡ f i → b ≡ f (i + 1) → c ≡ f (i + 2) → d ≡ f (i + 3)
    → ((k : ℕ) → k < i → get_or xs k (pos 0) ≡ f k)
    → (k : ℕ) → k < i + 4 → get_or (set_four xs i a b c d) k (pos 0) ≡ f k
fill_by_four f xs i a b c d fits first second third fourth below k lt =
    let l1 : List ℤ = slice_set xs i (f i) in
    let l2 : List ℤ = slice_set (slice_set xs i (f i)) (i + 1) (f (i + 1)) in
    let l3 : List ℤ = slice_set (slice_set (slice_set xs i (f i)) (i + 1) (f (i + 1))) (i + 2) (f (i + 2)) in
    let n1 = length-set xs i (f i) in
    let n2 = length-set (slice_set xs i (f i)) (i + 1) (f (i + 1)) in
    let n3 = length-set (slice_set (slice_set xs i (f i)) (i + 1) (f (i + 1))) (i + 2) (f (i + 2)) in
    let p1 = fill_by_more f xs i (pos 0) (omega (arith, fits)) below in
    let p2 = fill_by_more f l1 (i + 1) (pos 0) (omega (arith, fits, n1)) p1 in
    let p3 = fill_by_more f l2 (i + 2) (pos 0) (omega (arith, fits, n1, n2)) (λ j le. p2 j (omega arith)) in
    let p4 = fill_by_more f l3 (i + 3) (pos 0) (omega (arith, fits, n1, n2, n3)) (λ j le. p3 j (omega arith)) in
    rw (first, second, third, fourth) (p4 k (omega arith))

-- the places after them stay
pub left_by_four : (xs : List ℤ) (i : ℕ) (a b c d : ℤ) (k : ℕ) → i + 4 ≤ k → get_or (set_four xs i a b c d) k (pos 0) ≡ get_or xs k (pos 0)
left_by_four xs i a b c d k le =
    get_or-set_other (slice_set (slice_set (slice_set xs i a) (i + 1) b) (i + 2) c) (i + 3) k d (pos 0) (λ e. omega arith)
    ∙ get_or-set_other (slice_set (slice_set xs i a) (i + 1) b) (i + 2) k c (pos 0) (λ e. omega arith)
    ∙ get_or-set_other (slice_set xs i a) (i + 1) k b (pos 0) (λ e. omega arith)
    ∙ get_or-set_other xs i k a (pos 0) (λ e. omega arith)

-- and each of the four is as it was until it is written
pub second_of_four : (xs : List ℤ) (i : ℕ) (a : ℤ) → get_or (slice_set xs i a) (i + 1) (pos 0) ≡ get_or xs (i + 1) (pos 0)
second_of_four xs i a = get_or-set_other xs i (i + 1) a (pos 0) (λ e. omega arith)

pub third_of_four : (xs : List ℤ) (i : ℕ) (a b : ℤ) → get_or (slice_set (slice_set xs i a) (i + 1) b) (i + 2) (pos 0) ≡ get_or xs (i + 2) (pos 0)
third_of_four xs i a b =
    get_or-set_other (slice_set xs i a) (i + 1) (i + 2) b (pos 0) (λ e. omega arith)
    ∙ get_or-set_other xs i (i + 2) a (pos 0) (λ e. omega arith)

pub last_of_four : (xs : List ℤ) (i : ℕ) (a b c : ℤ)
    → get_or (slice_set (slice_set (slice_set xs i a) (i + 1) b) (i + 2) c) (i + 3) (pos 0) ≡ get_or xs (i + 3) (pos 0)
last_of_four xs i a b c =
    get_or-set_other (slice_set (slice_set xs i a) (i + 1) b) (i + 2) (i + 3) c (pos 0) (λ e. omega arith)
    ∙ get_or-set_other (slice_set xs i a) (i + 1) (i + 3) b (pos 0) (λ e. omega arith)
    ∙ get_or-set_other xs i (i + 3) a (pos 0) (λ e. omega arith)

-- what is written from one place up to another, where the rest is as it was
pub record IsWritten (f : ℕ → ℤ) (old : List ℤ) (from i : ℕ) (xs : List ℤ) : Type 0 where
  pub before : (k : ℕ) → k < from → get_or xs k (pos 0) ≡ get_or old k (pos 0)
  pub done : (k : ℕ) → from ≤ k → k < i → get_or xs k (pos 0) ≡ f k
  pub left : (k : ℕ) → i ≤ k → get_or xs k (pos 0) ≡ get_or old k (pos 0)

pub written_more : (f : ℕ → ℤ) (old : List ℤ) (from i : ℕ) (xs : List ℤ) (y : ℤ) → from ≤ i → i < length xs → y ≡ f i
    → IsWritten f old from i xs → IsWritten f old from (i + 1) (slice_set xs i y)
written_more f old from i xs y start inside is held = record {
  before = λ k lt. get_or-set_other xs i k y (pos 0) (λ e. omega arith) ∙ held.before k lt;
  done = λ k ge lt. ⊎_elim
      (λ (less : k < i). get_or-set_other xs i k y (pos 0) (λ e. omega arith) ∙ held.done k ge less)
      (λ (le : i ≤ k).
      let e : k ≡ i = omega arith in
      get_or-set_at xs i k y (pos 0) e inside ∙ is ∙ ap f (sym e))
      (cases_lt k i);
  left = λ k le. get_or-set_other xs i k y (pos 0) (λ e. omega arith) ∙ held.left k (omega arith);
}

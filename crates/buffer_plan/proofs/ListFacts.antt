-- Counts over lists that gain or change an item, sums that differ at one number, and what a search did not find.
use Rattle.std.proofs.Common.{◌≡◌, ℕ, zero, suc, ◌+◌, ◌<◌, Bool, true, false, ltb, List, [], ◌∷◌, ◌++◌, length, get_or, set, refl, sym, ◌∙◌, subst, ⊎_elim, arith, All, count_by, Some, None, position}
use Rattle.std.specs.List.{position_or_len}
use Rattle.std.proofs.lemmas.Bool.{cond-true, cases_lt, cases_eq, lt-ltb}
use Rattle.std.proofs.lemmas.Option.{none-some}
use Rattle.std.proofs.lemmas.List.{get_or_append_left, get_or_push, length_push}
use Rattle.std.proofs.lemmas.List.Sums.{fails_before_first, sum_by_push, sum_by-set}
use Rattle.plan_model.proofs.CountFacts.{bit, sum_below}
use Rattle.plan_model.proofs.BelowFacts.{sum_below-same, count_by-cons}

module _ {X : Type 0} where
  pub count_by_push : (p : X → Bool) (xs : List X) (y : X) → count_by p (xs ++ y ∷ []) ≡ count_by p xs + bit (p y)
  count_by_push p xs y = sum_by_push (λ x. bit (p x)) xs y

  pub count_by-set : (p : X → Bool) (xs : List X) (i : ℕ) (y d : X) → i < length xs → count_by p (set xs i y) + bit (p (get_or xs i d)) ≡ count_by p xs + bit (p y)
  count_by-set p xs i y d l = sum_by-set (λ x. bit (p x)) xs i y d l

  pub count_by_all : (q : X → Bool) (xs : List X) → All (λ x. q x ≡ true) xs → count_by q xs ≡ length xs
  count_by_all q [] h = refl
  count_by_all q (x ∷ xs) h =
      let here : bit (q x) ≡ 1 = rw (h 0 x (omega arith)) in
      omega (arith, count_by-cons q x xs, count_by_all q xs (λ k d l. h (suc k) d (omega arith)))

  pub All-push_front : (P : X → Type 0) (xs : List X) (y : X) → All P (xs ++ y ∷ []) → All P xs
  All-push_front P xs y h k d l = subst P (get_or_append_left xs (y ∷ []) d k l) (h k d (omega (arith, length_push xs y)))

  pub All-push_last : (P : X → Type 0) (xs : List X) (y : X) → All P (xs ++ y ∷ []) → P y
  All-push_last P xs y h = subst P (get_or_push xs y y (length xs) refl) (h (length xs) y (omega (arith, length_push xs y)))

  pub position_none : (q : X → Bool) (xs : List X) → position q xs ≡ None → All (λ x. q x ≡ false) xs
  position_none q xs h k d l =
      ⊎_elim
      (λ lt. absurd (none-some (position_or_len q xs) (sym h ∙ cond-true (ltb (position_or_len q xs) (length xs)) (Some (position_or_len q xs)) None (lt-ltb (position_or_len q xs) (length xs) lt))))
      (λ ge. fails_before_first q xs k d (omega arith))
      (cases_lt (position_or_len q xs) (length xs))

-- two sums that differ at one number
pub sum_below_bump : (n k e : ℕ) (f g : ℕ → ℕ) → k < n → ((a : ℕ) → (a ≡ k → ⊥) → g a ≡ f a) → g k ≡ f k + e → sum_below n g ≡ sum_below n f + e
sum_below_bump zero k e f g l other here = absurd (omega arith)
sum_below_bump (suc n) k e f g l other here =
    ⊎_elim
    (λ same.
    let front : sum_below n g ≡ sum_below n f = sum_below-same n g f (λ a lt. other a (λ q. omega arith)) in
    let now : g n ≡ f n + e = subst (λ j. g j ≡ f j + e) same here in
    omega arith)
    (λ ne.
    let now : g n ≡ f n = other n (λ q. ne (sym q)) in
    omega (arith, sum_below_bump n k e f g (omega arith) other here))
    (cases_eq k n)

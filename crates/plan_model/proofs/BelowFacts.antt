-- Sums over the numbers below n, and counts by a key that is below n.
use Rattle.std.proofs.Common.{◌≡◌, ℕ, zero, suc, ◌+◌, ◌<◌, ◌≤◌, Bool, true, false, cond, ◌&&◌, eqb, List, [], ◌∷◌, get_or, min, refl, sym, ◌∙◌, ap, ⊎_elim, arith, All, AllPairs, Contains, count_by}
use Rattle.plan_model.proofs.CountFacts.{bit, sum_below}
use Rattle.std.proofs.lemmas.List.Sums.{sum_by-cons, get_or-le-sum_by}
use Rattle.std.proofs.lemmas.List.Elements.{All-head, All-tail}
use Rattle.std.proofs.lemmas.Bool.{cases_eq, eq-eqb, ne_eqb, cases_Bool}

pub sum_below-le : (n : ℕ) (f g : ℕ → ℕ) → ((k : ℕ) → k < n → f k ≤ g k) → sum_below n f ≤ sum_below n g
sum_below-le zero f g h = omega arith
sum_below-le (suc n) f g h = omega (arith, sum_below-le n f g (λ k l. h k (omega arith)), h n (omega arith))

pub sum_below-same : (n : ℕ) (f g : ℕ → ℕ) → ((k : ℕ) → k < n → f k ≡ g k) → sum_below n f ≡ sum_below n g
sum_below-same zero f g h = refl
sum_below-same (suc n) f g h = omega (arith, sum_below-same n f g (λ k l. h k (omega arith)), h n (omega arith))

pub sum_below-zero : (n : ℕ) → sum_below n (λ _. 0) ≡ 0
sum_below-zero zero = refl
sum_below-zero (suc n) = omega (arith, sum_below-zero n)

pub sum_below-one : (n : ℕ) → sum_below n (λ _. 1) ≡ n
sum_below-one zero = refl
sum_below-one (suc n) = omega (arith, sum_below-one n)

pub sum_below-add : (n : ℕ) (f g : ℕ → ℕ) → sum_below n (λ k. f k + g k) ≡ sum_below n f + sum_below n g
sum_below-add zero f g = refl
sum_below-add (suc n) f g = omega (arith, sum_below-add n f g)

pub sum_below-at : (n : ℕ) (f : ℕ → ℕ) (k : ℕ) → k < n → f k ≤ sum_below n f
sum_below-at zero f k l = omega arith
sum_below-at (suc n) f k l =
    ⊎_elim (λ e. let h : f k ≡ f n = ap f e in omega arith) (λ ne. omega (arith, sum_below-at n f k (omega arith))) (cases_eq k n)

pub sum_below-swap : (n m : ℕ) (f : ℕ → ℕ → ℕ) → sum_below n (λ c. sum_below m (f c)) ≡ sum_below m (λ a. sum_below n (λ c. f c a))
sum_below-swap zero m f = sym (sum_below-zero m)
sum_below-swap (suc n) m f =
    ap (λ t. t + sum_below m (f n)) (sum_below-swap n m f) ∙ sym (sum_below-add m (λ a. sum_below n (λ c. f c a)) (f n))

pub sum_below-min : (n : ℕ) (f g : ℕ → ℕ) → sum_below n (λ c. min (f c) (g c)) ≤ min (sum_below n f) (sum_below n g)
sum_below-min n f g =
    omega (arith, sum_below-le n (λ c. min (f c) (g c)) f (λ k l. omega arith), sum_below-le n (λ c. min (f c) (g c)) g (λ k l. omega arith))

-- a test that holds at one number at most
pub sum_below-point : (n k : ℕ) (t : Bool) → k < n → sum_below n (λ c. cond (t && eqb k c) 1 0) ≡ cond t 1 0
sum_below-point zero k t l = absurd (omega arith)
sum_below-point (suc n) k false l = omega (arith, sum_below-zero n)
sum_below-point (suc n) k true l =
    ⊎_elim
    (λ e. let here : bit (eqb k n) ≡ 1 = rw (eq-eqb k n e) in let before : sum_below n (λ c. cond (eqb k c) 1 0) ≡ 0 = none_below n k (omega arith) in omega arith)
    (λ ne. let here : bit (eqb k n) ≡ 0 = rw (ne_eqb k n ne) in omega (arith, sum_below-point n k true (omega arith)))
    (cases_eq k n)
  where
    none_below : (n k : ℕ) → n ≤ k → sum_below n (λ c. cond (eqb k c) 1 0) ≡ 0
    none_below zero k l = refl
    none_below (suc n) k l =
        let here : bit (eqb k n) ≡ 0 = rw (ne_eqb k n (λ e. omega arith)) in omega (arith, none_below n k (omega arith))

module _ {X : Type 0} where
  pub count_by-cons : (p : X → Bool) (x : X) (xs : List X) → count_by p (x ∷ xs) ≡ cond (p x) 1 0 + count_by p xs
  count_by-cons p x xs = sum_by-cons (λ y. cond (p y) 1 0) x xs

  -- counted by a key below n, all is counted
  pub count_by_keys : (key : X → ℕ) (p : X → Bool) (n : ℕ) (xs : List X) → All (λ x. key x < n) xs → sum_below n (λ c. count_by (λ x. p x && eqb (key x) c) xs) ≡ count_by p xs
  count_by_keys key p n [] h = sum_below-zero n
  count_by_keys key p n (x ∷ xs) h =
      sum_below-same n _ (λ c. cond (p x && eqb (key x) c) 1 0 + count_by (λ y. p y && eqb (key y) c) xs) (λ c l. count_by-cons (λ y. p y && eqb (key y) c) x xs)
      ∙ sum_below-add n (λ c. cond (p x && eqb (key x) c) 1 0) (λ c. count_by (λ y. p y && eqb (key y) c) xs)
      ∙ ap (λ t. t + sum_below n (λ c. count_by (λ y. p y && eqb (key y) c) xs)) (sum_below-point n (key x) (p x) (All-head (λ y. key y < n) x xs h))
      ∙ ap (λ t. cond (p x) 1 0 + t) (count_by_keys key p n xs (All-tail (λ y. key y < n) x xs h))
      ∙ sym (count_by-cons p x xs)

  pub count_by_none : (p : X → Bool) (xs : List X) → All (λ x. p x ≡ false) xs → count_by p xs ≡ 0
  count_by_none p [] h = refl
  count_by_none p (x ∷ xs) h =
      let here : bit (p x) ≡ 0 = rw (All-head (λ y. p y ≡ false) x xs h) in
      omega (arith, count_by-cons p x xs, count_by_none p xs (All-tail (λ y. p y ≡ false) x xs h))

  -- no two pass
  pub count_by-le_one : (p : X → Bool) (xs : List X) → AllPairs (λ x y. p x ≡ true → p y ≡ true → ⊥) xs → count_by p xs ≤ 1
  count_by-le_one p [] h = omega arith
  count_by-le_one p (x ∷ xs) h =
      let rest : count_by p xs ≤ 1 = count_by-le_one p xs (λ i j d lt l. h (suc i) (suc j) d (omega arith) (omega arith)) in
      elim (p x) as (λ t. p x ≡ t → count_by p (x ∷ xs) ≤ 1) [
        | true ↦ λ e. let others : count_by p xs ≡ 0 = count_by_none p xs (λ j d l. ⊎_elim (λ t. absurd (h 0 (suc j) d (omega arith) (omega arith) e t)) (λ f. f) (cases_Bool (p (get_or xs j d)))) in
            let here : bit (p x) ≡ 1 = rw e in omega (arith, count_by-cons p x xs)
        | false ↦ λ e. let here : bit (p x) ≡ 0 = rw e in omega (arith, count_by-cons p x xs)
      ] refl

  -- some item passes
  pub count_by_some : (p : X → Bool) (xs : List X) → 0 < count_by p xs → (x : X) × Contains xs x × (p x ≡ true)
  count_by_some p [] h = absurd (omega arith)
  count_by_some p (x ∷ xs) h =
      elim (p x) as (λ t. p x ≡ t → (y : X) × Contains (x ∷ xs) y × (p y ≡ true)) [
        | true ↦ λ e. (x, (0, omega arith, refl), e)
        | false ↦ λ e. let here : bit (p x) ≡ 0 = rw e in
            let r : (y : X) × Contains xs y × (p y ≡ true) = count_by_some p xs (omega (arith, count_by-cons p x xs)) in
            (r.0, (suc r.1.0, omega (arith, r.1.1), r.1.2), r.2)
      ] refl

  pub count_by_at : (p : X → Bool) (xs : List X) (x : X) → Contains xs x → p x ≡ true → 0 < count_by p xs
  count_by_at p xs x h e =
      let there : p (get_or xs h.0 x) ≡ true = ap p h.2 ∙ e in
      let here : bit (p (get_or xs h.0 x)) ≡ 1 = rw there in omega (arith, get_or-le-sum_by (λ y. cond (p y) 1 0) xs h.0 x h.1)

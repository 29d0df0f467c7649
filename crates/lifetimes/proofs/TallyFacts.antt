-- Counts, one more at a time.
use Rattle.std.proofs.Common.{◌≡◌, ℕ, ◌+◌, ◌<◌, ◌≤◌, ◌==◌, Bool, List, [], ◌∷◌, ◌++◌, length, get_or, set, take, sym, ◌∙◌, ap, ⊎_elim, arith, count_by}
use Rattle.std.proofs.lemmas.Bool.{cases_eq, eq-eqb, ne_eqb}
use Rattle.std.proofs.lemmas.List.{take_more, length-take, get_or_default, get_or-set_same, get_or-set_other}
use Rattle.std.proofs.lemmas.List.Sums.{count_by-le-length}
use Rattle.plan_model.proofs.CountFacts.{bit}
use Rattle.plan_model.proofs.BelowFacts.{count_by-cons}

module _ {X : Type 0} where
  pub count_by-push : (p : X → Bool) (xs : List X) (x : X) → count_by p (xs ++ x ∷ []) ≡ count_by p xs + bit (p x)
  count_by-push p [] x = omega (arith, count_by-cons p x [])
  count_by-push p (y ∷ ys) x = omega (arith, count_by-cons p y (ys ++ x ∷ []), count_by-cons p y ys, count_by-push p ys x)

  pub count_by-more : (p : X → Bool) (xs : List X) (i : ℕ) (d : X) → i < length xs → count_by p (take (i + 1) xs) ≡ count_by p (take i xs) + bit (p (get_or xs i d))
  count_by-more p xs i d l = ap (λ ys. count_by p ys) (take_more xs i d l) ∙ count_by-push p (take i xs) (get_or xs i d)

  -- the first of them are no more than their number
  pub count_by-first : (p : X → Bool) (xs : List X) (i : ℕ) → count_by p (take i xs) ≤ i
  count_by-first p xs i = omega (arith, count_by-le-length p (take i xs), length-take i xs)

-- a list that counts each number, with one number more
pub tally_more : (counts numbers : List ℕ) (i limit d : ℕ) → i < length numbers → get_or numbers i d < limit → length counts ≡ limit
    → ((k : ℕ) → k < limit → get_or counts k 0 ≡ count_by (λ n. n == k) (take i numbers)) → (v : ℕ) → v ≡ get_or counts (get_or numbers i d) v
    → (k : ℕ) → k < limit → get_or (set counts (get_or numbers i d) (v + 1)) k 0 ≡ count_by (λ n. n == k) (take (i + 1) numbers)
tally_more counts numbers i limit d l within long h v is k lk =
    let more = count_by-more (λ n. n == k) numbers i d l in
    ⊎_elim
    (λ (e : k ≡ get_or numbers i d).
    let here : bit (get_or numbers i d == k) ≡ 1 = rw (eq-eqb (get_or numbers i d) k (sym e)) in
    let new : get_or (set counts (get_or numbers i d) (v + 1)) k 0 ≡ v + 1 = ap (λ j. get_or (set counts (get_or numbers i d) (v + 1)) j 0) e ∙ get_or-set_same counts (get_or numbers i d) (v + 1) 0 (omega arith) in
    let old : v ≡ get_or counts k 0 = is ∙ ap (λ j. get_or counts j v) (sym e) ∙ get_or_default counts k v 0 (omega arith) in
    omega (arith, h k lk))
    (λ ne.
    let here : bit (get_or numbers i d == k) ≡ 0 = rw (ne_eqb (get_or numbers i d) k (λ e. ne (sym e))) in
    omega (arith, h k lk, get_or-set_other counts (get_or numbers i d) k (v + 1) 0 ne))
    (cases_eq k (get_or numbers i d))

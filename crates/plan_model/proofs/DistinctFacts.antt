-- Lists of numbers that differ: parts, order, and that two with the same entries are permutations of each other.
use Rattle.std.proofs.Common.{◌≡◌, ℕ, suc, ◌<◌, ◌⊎◌, eqb, Bool, true, false, cond, List, [], ◌∷◌, ◌++◌, inl, inr, ⊎_elim, refl, ap, sym, ◌∙◌, subst, arith}
use Rattle.std.specs.Prelude.{AllPairs}
use Rattle.std.specs.List.{AllByRecursion, Contains, IsDistinct, filter}
use Rattle.std.specs.List.Sorted.{IsPermutation, IsStrictlyIncreasing}
use Rattle.std.proofs.lemmas.Bool.{cases_eq, eq-eqb, ne_eqb}
use Rattle.std.proofs.lemmas.List.Elements.{All-contains, All-from_recursion, Contains-append_cases, Contains-append_left, Contains-append_right}
use Rattle.std.proofs.lemmas.List.Kept.{AllPairs-from_increasing}
use Rattle.std.proofs.lemmas.List.Sorted.{IsPermutation-cons, IsPermutation-middle, IsPermutation-refl, IsPermutation-sym, IsPermutation-trans}
use Rattle.std.proofs.lemmas.Map.Keys.{IsDistinct-IsPermutation}
use Rattle.graph_model.proofs.PathLaws.{at_tail, first_or_later}
use Rattle.graph_model.proofs.ReachLaws.{filter_from}

abbrev pub Differ : List ℕ → Type 0
Differ [] = Unit {0}
Differ (x ∷ xs) = (Contains xs x → ⊥) × Differ xs

-- ---- of appended lists
pub differ_append : (xs ys : List ℕ) → Differ xs → Differ ys → ((v : ℕ) → Contains xs v → Contains ys v → ⊥) → Differ (xs ++ ys)
differ_append [] ys d e apart = e
differ_append (x ∷ xs) ys d e apart = (first, differ_append xs ys d.1 e (λ v a b. apart v (at_tail x v xs a) b))
  where
    first : Contains (xs ++ ys) x → ⊥
    first has = elim (Contains-append_cases xs ys x has) [ inl h ↦ d.0 h | inr h ↦ apart x (0, omega arith, refl) h ]

pub differ_parts : (xs ys : List ℕ) → Differ (xs ++ ys) → (v : ℕ) → Contains xs v → Contains ys v → ⊥
differ_parts [] ys d v a b = let l = a.1 in omega arith
differ_parts (x ∷ xs) ys d v a b =
    elim (first_or_later x v xs a) [
      | inl same ↦ d.0 (Contains-append_right xs ys x (subst (Contains ys) (sym same) b))
      | inr there ↦ differ_parts xs ys d.1 v there b
    ]

differ_right : (xs ys : List ℕ) → Differ (xs ++ ys) → Differ ys
differ_right [] ys d = d
differ_right (x ∷ xs) ys d = differ_right xs ys d.1

-- ---- with one entry more
wider : (xs : List ℕ) (x : ℕ) (ys : List ℕ) (v : ℕ) → Contains (xs ++ ys) v → Contains (xs ++ x ∷ ys) v
wider xs x ys v has =
    elim (Contains-append_cases xs ys v has) [
      | inl a ↦ Contains-append_left xs (x ∷ ys) v a
      | inr b ↦ Contains-append_right xs (x ∷ ys) v (at_tail x v ys b)
    ]

narrower : (xs : List ℕ) (x : ℕ) (ys : List ℕ) (v : ℕ) → Contains (xs ++ x ∷ ys) v → (x ≡ v) ⊎ Contains (xs ++ ys) v
narrower xs x ys v has =
    elim (Contains-append_cases xs (x ∷ ys) v has) [
      | inl a ↦ inr (Contains-append_left xs ys v a)
      | inr b ↦ elim (first_or_later x v ys b) [ inl same ↦ inl same | inr there ↦ inr (Contains-append_right xs ys v there) ]
    ]

differ_without : (xs : List ℕ) (x : ℕ) (ys : List ℕ) → Differ (xs ++ x ∷ ys) → Differ (xs ++ ys)
differ_without [] x ys d = d.1
differ_without (y ∷ xs) x ys d = ((λ has. d.0 (wider xs x ys y has)), differ_without xs x ys d.1)

middle_is_new : (xs : List ℕ) (x : ℕ) (ys : List ℕ) → Differ (xs ++ x ∷ ys) → Contains (xs ++ ys) x → ⊥
middle_is_new xs x ys d has =
    elim (Contains-append_cases xs ys x has) [
      | inl a ↦ differ_parts xs (x ∷ ys) d x a (0, omega arith, refl)
      | inr b ↦ (differ_right xs (x ∷ ys) d).0 b
    ]

split : (ys : List ℕ) (x : ℕ) → Contains ys x → (fs : List ℕ) × (ts : List ℕ) × (ys ≡ fs ++ x ∷ ts)
split [] x has = let l = has.1 in absurd (omega arith)
split (y ∷ ys) x has =
    elim (first_or_later y x ys has) [
      | inl same ↦ ([], ys, ap (λ z. z ∷ ys) same)
      | inr there ↦ (let s = split ys x there in (y ∷ s.0, s.1, ap (λ zs. y ∷ zs) s.2))
    ]

-- ---- permutations
-- an entry of one list, but not the first, is one of the other, but not that
forth : (x : ℕ) (xs : List ℕ) → (Contains xs x → ⊥) → (zs : List ℕ) (v : ℕ) → Contains xs v → (x ≡ v) ⊎ Contains zs v → Contains zs v
forth x xs new zs v has (inl e) = absurd (new (subst (Contains xs) (sym e) has))
forth x xs new zs v has (inr h) = h

pub permutes : (xs ys : List ℕ) → Differ xs → Differ ys → ((v : ℕ) → Contains xs v → Contains ys v) → ((v : ℕ) → Contains ys v → Contains xs v) → IsPermutation xs ys
permutes [] [] d e there back = IsPermutation-refl []
permutes [] (y ∷ ys) d e there back = let l = (back y (0, omega arith, refl)).1 in absurd (omega arith)
permutes (x ∷ xs) ys d e there back = at_split (split ys x (there x (0, omega arith, refl))) (λ zs. permutes xs zs d.1)
  where
    at_split : (fs : List ℕ) × (ts : List ℕ) × (ys ≡ fs ++ x ∷ ts)
        → ((zs : List ℕ) → Differ zs → ((v : ℕ) → Contains xs v → Contains zs v) → ((v : ℕ) → Contains zs v → Contains xs v) → IsPermutation xs zs)
        → IsPermutation (x ∷ xs) ys
    at_split (fs, ts, same) others =
        let differ : Differ (fs ++ x ∷ ts) = subst Differ same e in
        let rest = others (fs ++ ts) (differ_without fs x ts differ)
        (λ v has. forth x xs d.0 (fs ++ ts) v has (narrower fs x ts v (subst (λ zs. Contains zs v) same (there v (at_tail x v xs has)))))
        (λ v has. forth x (fs ++ ts) (middle_is_new fs x ts differ) xs v has (first_or_later x v xs (back v (subst (λ zs. Contains zs v) (sym same) (wider fs x ts v has))))) in
        subst (IsPermutation (x ∷ xs)) (sym same)
        (IsPermutation-trans (x ∷ xs) (x ∷ (fs ++ ts)) (fs ++ x ∷ ts) (IsPermutation-cons x xs (fs ++ ts) rest)
        (IsPermutation-sym (fs ++ x ∷ ts) (x ∷ (fs ++ ts)) (IsPermutation-middle fs x ts)))

none_equal : (x : ℕ) (xs : List ℕ) → (Contains xs x → ⊥) → AllByRecursion (λ y. eqb x y ≡ false) xs
none_equal x [] h = tt
none_equal x (y ∷ ys) h = (ne_eqb x y (λ e. h (0, omega arith, sym e)), none_equal x ys (λ c. h (at_tail y x ys c)))

to_distinct : (xs : List ℕ) → Differ xs → IsDistinct eqb xs
unfolding IsDistinct
to_distinct [] d = tt
to_distinct (x ∷ xs) d = (none_equal x xs d.0, to_distinct xs d.1)

from_distinct : (xs : List ℕ) → IsDistinct eqb xs → Differ xs
unfolding IsDistinct
from_distinct [] d = tt
from_distinct (x ∷ xs) d = (first, from_distinct xs d.1)
  where
    first : Contains xs x → ⊥
    first has =
        let f : eqb x x ≡ false = All-contains (λ y. eqb x y ≡ false) xs x (All-from_recursion (λ y. eqb x y ≡ false) xs d.0) has in
        let t : eqb x x ≡ true = eq-eqb x x refl in
        absurd (cc)

eqb_flips : (x y : ℕ) → eqb x y ≡ eqb y x
eqb_flips x y = ⊎_elim (λ e. eq-eqb x y e ∙ sym (eq-eqb y x (sym e))) (λ ne. ne_eqb x y ne ∙ sym (ne_eqb y x (λ e. ne (sym e)))) (cases_eq x y)

pub differ_permuted : (xs ys : List ℕ) → IsPermutation xs ys → Differ xs → Differ ys
differ_permuted xs ys p d = from_distinct ys (IsDistinct-IsPermutation eqb eqb_flips xs ys p (to_distinct xs d))

-- ---- of ascending and of filtered lists
pub differ_rising : (xs : List ℕ) → IsStrictlyIncreasing xs → Differ xs
differ_rising xs up = by_pairs xs (AllPairs-from_increasing xs up)
  where
    by_pairs : (xs : List ℕ) → AllPairs (λ x y. x < y) xs → Differ xs
    by_pairs [] h = tt
    by_pairs (x ∷ xs) h =
        ((λ has. let l : x < x = All-contains (λ y. x < y) xs x (λ k d l. h 0 (suc k) d (omega arith) (omega arith)) has in omega arith), by_pairs xs (λ i j d lt l. h (suc i) (suc j) d (omega arith) (omega arith)))

pub differ_filtered : (p : ℕ → Bool) (xs : List ℕ) → Differ xs → Differ (filter p xs)
differ_filtered p [] d = tt
differ_filtered p (x ∷ xs) d = go (p x) (differ_filtered p xs d.1)
  where
    go : (b : Bool) → Differ (filter p xs) → Differ (cond b (x ∷ filter p xs) (filter p xs))
    go true rest = ((λ has. d.0 (filter_from p xs x has).0), rest)
    go false rest = rest

-- A list whose items differ is no longer than one that has them all.
use Rattle.std.proofs.Common.{◌≡◌, suc, ◌≤◌, List, [], ◌∷◌, ◌++◌, length, inl, inr, refl, ap, subst, arith, Contains}
use Rattle.std.specs.Prelude.{AllPairs}
use Rattle.std.proofs.lemmas.List.{length-append}
use Rattle.std.proofs.lemmas.List.Elements.{All-contains, Contains-append_cases, Contains-append_left, Contains-append_right}
use Rattle.graph_model.proofs.PathLaws.{at_tail, first_or_later}

module _ {X : Type 0} where
  split : (ys : List X) (x : X) → Contains ys x → (fs : List X) × (ts : List X) × (ys ≡ fs ++ x ∷ ts)
  split [] x has = let l = has.1 in absurd (omega arith)
  split (y ∷ ys) x has =
      elim (first_or_later y x ys has) [
        | inl same ↦ ([], ys, ap (λ z. z ∷ ys) same)
        | inr there ↦ (let s = split ys x there in (y ∷ s.0, s.1, ap (λ zs. y ∷ zs) s.2))
      ]

  -- without the item at a place, every other one is still there
  still_there : (fs : List X) (x : X) (ts : List X) (v : X) → (x ≡ v → ⊥) → Contains (fs ++ x ∷ ts) v → Contains (fs ++ ts) v
  still_there fs x ts v other has =
      elim (Contains-append_cases fs (x ∷ ts) v has) [
        | inl a ↦ Contains-append_left fs ts v a
        | inr b ↦ elim (first_or_later x v ts b) [ inl same ↦ absurd (other same) | inr there ↦ Contains-append_right fs ts v there ]
      ]

  pub no_longer : (xs ys : List X) → AllPairs (λ x y. x ≡ y → ⊥) xs → ((x : X) → Contains xs x → Contains ys x) → length xs ≤ length ys
  no_longer [] ys differ there = omega arith
  no_longer (x ∷ xs) ys differ there = at_split (split ys x (there x (0, omega arith, refl))) (λ zs. no_longer xs zs (λ i j d lt l. differ (suc i) (suc j) d (omega arith) (omega arith)))
    where
      other : (v : X) → Contains xs v → x ≡ v → ⊥
      other v has = All-contains (λ y. x ≡ y → ⊥) xs v (λ k d l. differ 0 (suc k) d (omega arith) (omega arith)) has

      at_split : (fs : List X) × (ts : List X) × (ys ≡ fs ++ x ∷ ts) → ((zs : List X) → ((v : X) → Contains xs v → Contains zs v) → length xs ≤ length zs) → length (x ∷ xs) ≤ length ys
      at_split (fs, ts, same) rest =
          let less = rest (fs ++ ts) (λ v has. still_there fs x ts v (other v has) (subst (λ zs. Contains zs v) same (there v (at_tail x v xs has)))) in
          let size = ap length same in
          omega (arith, length-append fs (x ∷ ts), length-append fs ts)

-- What the needs of lives count, and that no assignment has fewer buffers.
use Rattle.std.proofs.Common.{◌≡◌, ℕ, zero, suc, ◌+◌, ◌<◌, ◌≤◌, Bool, true, List, [], ◌∷◌, length, get_or, map, min, refl, sym, ◌∙◌, ap, subst, inl, inr, ⊎_elim, arith, All, AllPairs, Contains, count_by}
use Rattle.std.specs.Prelude.{◌⊎◌}
use Rattle.std.proofs.lemmas.Bool.{cases_order, and_parts, and_from, eqb-true, eq-eqb, ltb-true, leb-true}
use Rattle.std.proofs.lemmas.List.Elements.{All-contains}
use Rattle.plan_model.specs.Buffers.{is_born, is_reader, is_born_of, is_freed, MayShare}
use Rattle.plan_model.specs.declared.buffers.Life.{Life}
use Rattle.plan_model.proofs.CountFacts.{is_before, bit, sum_below}
use Rattle.plan_model.proofs.BelowFacts.{count_by-cons}
use Rattle.plan_model.proofs.BoundFacts.{counts_le_buffers}

-- what the nodes of wave s take over in place, counted at each number below m
unfoldable pub saved_below : ℕ → List Life → ℕ → ℕ
saved_below m lives s = sum_below m (λ a. min (count_by (is_born_of s a) lives) (count_by (is_freed s a) lives))

module _ {X : Type 0} where
  pub count_by-map : {Y : Type 0} (f : X → Y) (p : Y → Bool) (xs : List X) → count_by p (map f xs) ≡ count_by (λ x. p (f x)) xs
  count_by-map f p [] = refl
  count_by-map f p (x ∷ xs) =
      count_by-cons p (f x) (map f xs) ∙ ap (λ t. bit (p (f x)) + t) (count_by-map f p xs) ∙ sym (count_by-cons (λ y. p (f y)) x xs)

  -- two items of a list are the same, or stand in the relation that all pairs have
  pub pair_of : (R : X → X → Type 0) → ((x y : X) → R x y → R y x) → (xs : List X) → AllPairs R xs → (x y : X) → Contains xs x → Contains xs y → (x ≡ y) ⊎ R x y
  pair_of R turn xs h x y cx cy =
      ⊎_elim
      (λ e. inl (sym cx.2 ∙ ap (λ k. get_or xs k x) e ∙ at_any xs cy.0 x y cy.1 ∙ cy.2))
      (λ o. ⊎_elim
      (λ lt. inr (subst (λ z. R z y) cx.2 (subst (λ z. R (get_or xs cx.0 x) z) (at_any xs cy.0 x y cy.1 ∙ cy.2) (h cx.0 cy.0 x lt cy.1))))
      (λ lt. inr (turn y x (subst (λ z. R z x) (at_any xs cy.0 x y cy.1 ∙ cy.2) (subst (λ z. R (get_or xs cy.0 x) z) cx.2 (h cy.0 cx.0 x lt cx.1)))))
      o)
      (cases_order cx.0 cy.0)
    where
      at_any : (xs : List X) (k : ℕ) (d e : X) → k < length xs → get_or xs k d ≡ get_or xs k e
      at_any [] k d e l = absurd (omega arith)
      at_any (x ∷ xs) zero d e l = refl
      at_any (x ∷ xs) (suc k) d e l = at_any xs k d e (omega arith)

pub turn_share : (x y : Life) → MayShare x y → MayShare y x
turn_share x y (inl h) = inr h
turn_share x y (inr h) = inl h

module _ {X : Type 0} (life : X → Life) (buffer : X → ℕ) (zs : List X) (n m s : ℕ) where
  -- the lower bound, for items with a life and a buffer
  pub alive_le_buffers :
      All (λ z. (life z).born < (life z).dies) zs
      → All (λ z. (life z).uid.0 < m) zs
      → AllPairs (λ x y. buffer x ≡ buffer y → MayShare (life x) (life y)) zs
      → All (λ z. buffer z < n) zs
      → count_by (λ z. is_before s (life z)) zs + count_by (λ z. is_born s (life z)) zs ≤ n + sum_below m (λ a. min (count_by (λ z. is_born_of s a (life z)) zs) (count_by (λ z. is_freed s a (life z)) zs))
  alive_le_buffers lasting uids apart below =
      counts_le_buffers buffer (λ z. is_before s (life z)) (λ z. is_born s (life z)) (λ a z. is_born_of s a (life z)) (λ a z. is_freed s a (life z)) zs n m
      below
      (λ i j d lt l e p q. before_apart (life (get_or zs i d)) (life (get_or zs j d)) p q (apart i j d lt l e))
      (λ i j d lt l e p q. born_apart (life (get_or zs i d)) (life (get_or zs j d)) (lasting i d (omega arith)) (lasting j d l) p q (apart i j d lt l e))
      (λ x y cx cy e p q.
      ⊎_elim
      (λ same. absurd (not_both (life x) p (subst (λ z. is_born s (life z) ≡ true) (sym same) q)))
      (λ r. takes_over (life x) (life y) (All-contains (λ z. (life z).born < (life z).dies) zs y lasting cy) (All-contains (λ z. (life z).uid.0 < m) zs y uids cy) p q (r e))
      (pair_of (λ x y. buffer x ≡ buffer y → MayShare (life x) (life y)) (λ x y r e. turn_share (life x) (life y) (r (sym e))) zs apart x y cx cy))
    where
      before_apart : (x y : Life) → is_before s x ≡ true → is_before s y ≡ true → MayShare x y → ⊥
      before_apart x y p q h =
          let P = and_parts _ _ p in let Q = and_parts _ _ q in
          let a : x.born < s = ltb-true _ _ P.0 in let b : s ≤ x.dies = leb-true _ _ P.1 in
          let c : y.born < s = ltb-true _ _ Q.0 in let d : s ≤ y.dies = leb-true _ _ Q.1 in
          ⊎_elim (⊎_elim (λ h. omega arith) (λ h. omega (arith, h.0))) (⊎_elim (λ h. omega arith) (λ h. omega (arith, h.0))) h

      born_apart : (x y : Life) → x.born < x.dies → y.born < y.dies → is_born s x ≡ true → is_born s y ≡ true → MayShare x y → ⊥
      born_apart x y lx ly p q h =
          let a : x.born ≡ s = eqb-true _ _ p in let b : y.born ≡ s = eqb-true _ _ q in
          ⊎_elim (⊎_elim (λ h. omega arith) (λ h. omega (arith, h.0))) (⊎_elim (λ h. omega arith) (λ h. omega (arith, h.0))) h

      not_both : (x : Life) → is_before s x ≡ true → is_born s x ≡ true → ⊥
      not_both x p q =
          let P = and_parts _ _ p in let a : x.born < s = ltb-true _ _ P.0 in let b : x.born ≡ s = eqb-true _ _ q in omega arith

      takes_over : (x y : Life) → y.born < y.dies → y.uid.0 < m → is_before s x ≡ true → is_born s y ≡ true → MayShare x y → (a : ℕ) × (a < m) × (is_born_of s a y ≡ true) × (is_freed s a x ≡ true)
      takes_over x y ly u p q h =
          let P = and_parts _ _ p in
          let a : x.born < s = ltb-true _ _ P.0 in let b : s ≤ x.dies = leb-true _ _ P.1 in
          let c : y.born ≡ s = eqb-true _ _ q in
          ⊎_elim
          (⊎_elim
          (λ h. absurd (omega arith))
          (λ h. (y.uid.0, u, and_from _ _ q (eq-eqb y.uid.0 y.uid.0 refl), and_from _ _ (eq-eqb x.dies s (h.0 ∙ c)) (subst (λ r. is_reader y.uid.0 r ≡ true) (sym h.1) (eq-eqb y.uid.0 y.uid.0 refl)))))
          (⊎_elim (λ h. absurd (omega arith)) (λ h. absurd (omega (arith, h.0))))
          h

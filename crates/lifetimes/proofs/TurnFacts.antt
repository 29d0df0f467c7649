-- Counts kept for nodes in waves, and what is taken of them.
use Rattle.std.proofs.Common.{◌≡◌, ℕ, ◌+◌, ◌-◌, ◌<◌, Bool, true, false, cond, List, [], ◌∷◌, ◌++◌, length, get_or, take, min, refl, sym, ◌∙◌, ap, arith, count_by, Some, unwrap_or}
use Rattle.std.specs.Prelude.{nat_lt}
use Rattle.std.specs.Cmp.{first_so, second_so}
use Rattle.std.specs.HashMap.{HashMap, get}
use Rattle.std.proofs.lemmas.Bool.{eqb-true}
use Rattle.std.proofs.lemmas.Bool.Decides.{nat_tests}
use Rattle.plan_model.specs.Buffers.{is_born_of, is_freed}
use Rattle.plan_model.specs.declared.buffers.Life.{Life}
use Rattle.plan_model.proofs.CountFacts.{bit}
use Rattle.lifetimes.proofs.TallyFacts.{count_by-push, count_by-more}
use Rattle.lifetimes.specs.Turns.{same_turn, count_in}
use Rattle.lifetimes.specs.declared.taken.Turn.{Turn}

-- ---- a map where one count is written
same_is : (k q : Turn) → same_turn k q ≡ true → k ≡ q
same_is k q e =
    let w : k.wave ≡ q.wave = eqb-true _ _ (first_so _ _ e) in
    let u : k.uid ≡ q.uid = eqb-true _ _ (second_so _ _ e) in
    λ i. record { wave = w i; uid = u i }

module _ {S : Type 0} (m n : HashMap Turn ℕ S) (k : Turn) where
  -- one less, or still none
  pub one_less : (v w : ℕ) → w ≡ v - 1 → get same_turn m k ≡ Some v → ((q : Turn) → get same_turn n q ≡ cond (same_turn k q) (Some w) (get same_turn m q))
      → (s a : ℕ) → count_in n s a ≡ count_in m s a - cond (same_turn k (record { wave = s; uid = a })) 1 0
  one_less v w less had now s a = go (same_turn k (record { wave = s; uid = a })) refl (now (record { wave = s; uid = a }))
    where
      go : (b : Bool) → same_turn k (record { wave = s; uid = a }) ≡ b → get same_turn n (record { wave = s; uid = a }) ≡ cond b (Some w) (get same_turn m (record { wave = s; uid = a }))
          → count_in n s a ≡ count_in m s a - cond b 1 0
      go true e is =
          let had_here : get same_turn m (record { wave = s; uid = a }) ≡ Some v = ap (get same_turn m) (sym (same_is k (record { wave = s; uid = a }) e)) ∙ had in
          let old : count_in m s a ≡ v = ap (λ o. unwrap_or o 0) had_here in
          let new : count_in n s a ≡ w = ap (λ o. unwrap_or o 0) is in
          omega arith
      go false e is = let new : count_in n s a ≡ count_in m s a = ap (λ o. unwrap_or o 0) is in omega arith

  -- one more
  pub one_more : (v : ℕ) → v ≡ unwrap_or (get same_turn m k) 0 → ((q : Turn) → get same_turn n q ≡ cond (same_turn k q) (Some (v + 1)) (get same_turn m q))
      → (s a : ℕ) → count_in n s a ≡ count_in m s a + bit (same_turn k (record { wave = s; uid = a }))
  one_more v had now s a = go (same_turn k (record { wave = s; uid = a })) refl (now (record { wave = s; uid = a }))
    where
      go : (b : Bool) → same_turn k (record { wave = s; uid = a }) ≡ b → get same_turn n (record { wave = s; uid = a }) ≡ cond b (Some (v + 1)) (get same_turn m (record { wave = s; uid = a }))
          → count_in n s a ≡ count_in m s a + bit b
      go true e is =
          let old : count_in m s a ≡ v = ap (λ q. unwrap_or (get same_turn m q) 0) (sym (same_is k (record { wave = s; uid = a }) e)) ∙ sym had in
          let new : count_in n s a ≡ v + 1 = ap (λ o. unwrap_or o 0) is in
          omega arith
      go false e is = let new : count_in n s a ≡ count_in m s a = ap (λ o. unwrap_or o 0) is in omega arith

some_left : (n : ℕ) → true ≡ nat_lt 0 n → 0 < n
some_left n e = grind (arith, nat_tests)

none_left : (n : ℕ) → false ≡ nat_lt 0 n → n ≡ 0
none_left n e = grind (arith, nat_tests)

-- the node that bears a value, and its wave
bears : (x : Life) (s a : ℕ) → is_born_of s a x ≡ true → (x.born ≡ s) × (x.uid.0 ≡ a)
bears x s a e = (eqb-true _ _ (first_so _ _ e), eqb-true _ _ (second_so _ _ e))

-- ---- one value more
module _ (lives : List Life) (i : ℕ) (d : Life) (l : i < length lives) (left new : ℕ → ℕ → ℕ) (took : Bool)
    (was : (s a : ℕ) → left s a ≡ count_by (is_freed s a) lives - count_by (is_born_of s a) (take i lives))
    (some : took ≡ nat_lt 0 (left (get_or lives i d).born (get_or lives i d).uid.0))
    (now : (s a : ℕ) → new s a ≡ left s a - cond (is_born_of s a (get_or lives i d)) 1 0)
  where
    -- what is left for its node
    pub left_more : (s a : ℕ) → new s a ≡ count_by (is_freed s a) lives - count_by (is_born_of s a) (take (i + 1) lives)
    left_more s a = omega (arith, was s a, now s a, count_by-more (is_born_of s a) lives i d l)

    -- what has been taken over
    pub taken_more : (takers more : List Life) → ((s a : ℕ) → count_by (is_born_of s a) takers ≡ min (count_by (is_born_of s a) (take i lives)) (count_by (is_freed s a) lives))
        → more ≡ cond took (takers ++ get_or lives i d ∷ []) takers
        → (s a : ℕ) → count_by (is_born_of s a) more ≡ min (count_by (is_born_of s a) (take (i + 1) lives)) (count_by (is_freed s a) lives)
    taken_more takers more so_far is s a = go took (is_born_of s a (get_or lives i d)) refl is some
      where
        more_born : count_by (is_born_of s a) (take (i + 1) lives) ≡ count_by (is_born_of s a) (take i lives) + bit (is_born_of s a (get_or lives i d))
        more_born = count_by-more (is_born_of s a) lives i d l

        pushed : count_by (is_born_of s a) (takers ++ get_or lives i d ∷ []) ≡ count_by (is_born_of s a) takers + bit (is_born_of s a (get_or lives i d))
        pushed = count_by-push (is_born_of s a) takers (get_or lives i d)

        here : is_born_of s a (get_or lives i d) ≡ true → left (get_or lives i d).born (get_or lives i d).uid.0 ≡ left s a
        here e =
            let at = bears (get_or lives i d) s a e in
            let born = at.0 in
            let uid = at.1 in
            λ j. left (born j) (uid j)

        go : (b t : Bool) → is_born_of s a (get_or lives i d) ≡ t → more ≡ cond b (takers ++ get_or lives i d ∷ []) takers → b ≡ nat_lt 0 (left (get_or lives i d).born (get_or lives i d).uid.0)
            → count_by (is_born_of s a) more ≡ min (count_by (is_born_of s a) (take (i + 1) lives)) (count_by (is_freed s a) lives)
        go true true e m n =
            let one : bit (is_born_of s a (get_or lives i d)) ≡ 1 = ap bit e in
            omega (arith, ap (λ ys. count_by (is_born_of s a) ys) m, pushed, more_born, so_far s a, was s a, here e, some_left (left (get_or lives i d).born (get_or lives i d).uid.0) n)
        go true false e m n =
            let none : bit (is_born_of s a (get_or lives i d)) ≡ 0 = ap bit e in
            omega (arith, ap (λ ys. count_by (is_born_of s a) ys) m, pushed, more_born, so_far s a)
        go false true e m n =
            let one : bit (is_born_of s a (get_or lives i d)) ≡ 1 = ap bit e in
            omega (arith, ap (λ ys. count_by (is_born_of s a) ys) m, more_born, so_far s a, was s a, here e, none_left (left (get_or lives i d).born (get_or lives i d).uid.0) n)
        go false false e m n =
            let none : bit (is_born_of s a (get_or lives i d)) ≡ 0 = ap bit e in
            omega (arith, ap (λ ys. count_by (is_born_of s a) ys) m, more_born, so_far s a)

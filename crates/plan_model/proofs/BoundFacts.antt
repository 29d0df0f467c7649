-- The counting behind the lower bound: items that stand in n buffers.
use Rattle.std.proofs.Common.{◌≡◌, ℕ, ◌+◌, ◌<◌, ◌≤◌, Bool, true, ◌&&◌, eqb, List, min, sym, ◌∙◌, ⊎_elim, arith, All, AllPairs, Contains, count_by}
use Rattle.std.proofs.lemmas.Bool.{cases_lt, and_parts, and_from, eqb-true}
use Rattle.plan_model.proofs.CountFacts.{sum_below}
use Rattle.plan_model.proofs.BelowFacts.{sum_below-le, sum_below-one, sum_below-add, sum_below-at, sum_below-swap, sum_below-min, count_by_keys, count_by-le_one, count_by_some, count_by_at}

module _ {X : Type 0} (buffer : X → ℕ) (before born : X → Bool) (borne freed : ℕ → X → Bool) (xs : List X) (n m : ℕ) where
  -- at one buffer: an item that was there before, one that is born there, and both only at a node that takes it over
  at_buffer :
      AllPairs (λ x y. buffer x ≡ buffer y → before x ≡ true → before y ≡ true → ⊥) xs
      → AllPairs (λ x y. buffer x ≡ buffer y → born x ≡ true → born y ≡ true → ⊥) xs
      → ((x y : X) → Contains xs x → Contains xs y → buffer x ≡ buffer y → before x ≡ true → born y ≡ true → (a : ℕ) × (a < m) × (borne a y ≡ true) × (freed a x ≡ true))
      → (c : ℕ)
      → count_by (λ x. before x && eqb (buffer x) c) xs + count_by (λ x. born x && eqb (buffer x) c) xs
      ≤ 1 + sum_below m (λ a. min (count_by (λ x. borne a x && eqb (buffer x) c) xs) (count_by (λ x. freed a x && eqb (buffer x) c) xs))
  at_buffer two_before two_born both c =
      let b1 : count_by (λ x. before x && eqb (buffer x) c) xs ≤ 1 =
      count_by-le_one (λ x. before x && eqb (buffer x) c) xs (λ i j d lt l p q.
      let P = and_parts _ _ p in let Q = and_parts _ _ q in
      two_before i j d lt l (eqb-true _ _ P.1 ∙ sym (eqb-true _ _ Q.1)) P.0 Q.0) in
      let e1 : count_by (λ x. born x && eqb (buffer x) c) xs ≤ 1 =
      count_by-le_one (λ x. born x && eqb (buffer x) c) xs (λ i j d lt l p q.
      let P = and_parts _ _ p in let Q = and_parts _ _ q in
      two_born i j d lt l (eqb-true _ _ P.1 ∙ sym (eqb-true _ _ Q.1)) P.0 Q.0) in
      ⊎_elim
      (λ some_before.
      ⊎_elim
      (λ some_born.
      let x = count_by_some (λ x. before x && eqb (buffer x) c) xs some_before in
      let y = count_by_some (λ x. born x && eqb (buffer x) c) xs some_born in
      let P = and_parts _ _ x.2 in let Q = and_parts _ _ y.2 in
      let a = both x.0 y.0 x.1 y.1 (eqb-true _ _ P.1 ∙ sym (eqb-true _ _ Q.1)) P.0 Q.0 in
      omega (
        arith,
        sum_below-at m (λ a. min (count_by (λ x. borne a x && eqb (buffer x) c) xs) (count_by (λ x. freed a x && eqb (buffer x) c) xs)) a.0 a.1,
        count_by_at (λ x. borne a.0 x && eqb (buffer x) c) xs y.0 y.1 (and_from _ _ a.2 Q.1),
        count_by_at (λ x. freed a.0 x && eqb (buffer x) c) xs x.0 x.1 (and_from _ _ a.3 P.1),
      ))
      (λ none. omega arith)
      (cases_lt 0 (count_by (λ x. born x && eqb (buffer x) c) xs)))
      (λ none. omega arith)
      (cases_lt 0 (count_by (λ x. before x && eqb (buffer x) c) xs))

  -- so all that was there and all that is born fill n buffers and what the nodes take over
  pub counts_le_buffers :
      All (λ x. buffer x < n) xs
      → AllPairs (λ x y. buffer x ≡ buffer y → before x ≡ true → before y ≡ true → ⊥) xs
      → AllPairs (λ x y. buffer x ≡ buffer y → born x ≡ true → born y ≡ true → ⊥) xs
      → ((x y : X) → Contains xs x → Contains xs y → buffer x ≡ buffer y → before x ≡ true → born y ≡ true → (a : ℕ) × (a < m) × (borne a y ≡ true) × (freed a x ≡ true))
      → count_by before xs + count_by born xs ≤ n + sum_below m (λ a. min (count_by (borne a) xs) (count_by (freed a) xs))
  counts_le_buffers below two_before two_born both =
      let B : ℕ → ℕ = λ c. count_by (λ x. before x && eqb (buffer x) c) xs in
      let E : ℕ → ℕ = λ c. count_by (λ x. born x && eqb (buffer x) c) xs in
      let bo : ℕ → ℕ → ℕ = λ a c. count_by (λ x. borne a x && eqb (buffer x) c) xs in
      let fr : ℕ → ℕ → ℕ = λ a c. count_by (λ x. freed a x && eqb (buffer x) c) xs in
      let each : sum_below n (λ c. B c + E c) ≤ sum_below n (λ c. 1 + sum_below m (λ a. min (bo a c) (fr a c))) =
      sum_below-le n _ _ (λ c l. at_buffer two_before two_born both c) in
      let left : sum_below n (λ c. B c + E c) ≡ count_by before xs + count_by born xs =
      omega (arith, sum_below-add n B E, count_by_keys buffer before n xs below, count_by_keys buffer born n xs below) in
      let right : sum_below n (λ c. 1 + sum_below m (λ a. min (bo a c) (fr a c))) ≡ n + sum_below m (λ a. sum_below n (λ c. min (bo a c) (fr a c))) =
      omega (arith, sum_below-add n (λ _. 1) (λ c. sum_below m (λ a. min (bo a c) (fr a c))), sum_below-one n, sum_below-swap n m (λ c a. min (bo a c) (fr a c))) in
      let shared : sum_below m (λ a. sum_below n (λ c. min (bo a c) (fr a c))) ≤ sum_below m (λ a. min (count_by (borne a) xs) (count_by (freed a) xs)) =
      sum_below-le m _ _ (λ a l. omega (arith, sum_below-min n (bo a) (fr a), count_by_keys buffer (borne a) n xs below, count_by_keys buffer (freed a) n xs below)) in
      omega (arith, each, left, right, shared)

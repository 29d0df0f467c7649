-- The order of one thread is an order.
use Rattle.std.proofs.Common.{◌≡◌, ℕ, ◌+◌, zero, suc, true, false, cond, List, [], ◌∷◌, ◌++◌, replicate, refl, sym, subst, arith, inl, inr}
use Rattle.std.specs.Prelude.{◌==◌}
use Rattle.std.proofs.lemmas.Bool.{eqb-true, cond-true, cond-false, cases_Bool, or_parts, or_cases}
use Rattle.orders.specs.Orders.{AreDistinct, in_turn, is_in, times}
use Rattle.orders.specs.Laws.{OrderExists}

times_append : (v : ℕ) (a b : List ℕ) → times v (a ++ b) ≡ times v a + times v b
times_append v [] b = omega arith
times_append v (u ∷ us) b = let e = times_append v us b in omega arith

times_copies : (v u n : ℕ) → times v (replicate n u) ≡ cond {A = ℕ} (v == u) n 0
times_copies v u zero = elim (v == u) as (λ b. 0 ≡ cond {A = ℕ} b 0 0) [ true ↦ refl | false ↦ refl ]
times_copies v u (suc n) =
    let e = times_copies v u n in
    elim (v == u) as (λ b. times v (replicate n u) ≡ cond {A = ℕ} b n 0 → cond {A = ℕ} b 1 0 + times v (replicate n u) ≡ cond {A = ℕ} b (suc n) 0)
    [ true ↦ λ h. omega (arith, h) | false ↦ λ h. omega (arith, h) ] e

-- a node outside of the wave has no event in it
times_none : (n v : ℕ) (vs : List ℕ) → is_in v vs ≡ false → times v (in_turn n vs) ≡ 0
times_none n v [] e = refl
times_none n v (u ∷ us) e =
    let p = or_parts (v == u) (is_in v us) e in
    let a = times_append v (replicate n u) (in_turn n us) in
    let b = times_copies v u n in
    let f : cond {A = ℕ} (v == u) n 0 ≡ 0 = cond-false {A = ℕ} (v == u) n 0 p.0 in
    let r = times_none n v us p.1 in
    omega arith

times_all : (n v : ℕ) (vs : List ℕ) → AreDistinct vs → is_in v vs ≡ true → times v (in_turn n vs) ≡ n
times_all n v [] d e = absurd (cc)
times_all n v (u ∷ us) d e =
    let a = times_append v (replicate n u) (in_turn n us) in
    let b = times_copies v u n in
    elim (cases_Bool (v == u)) [
      | inl t ↦ (
          let f : cond {A = ℕ} (v == u) n 0 ≡ n = cond-true {A = ℕ} (v == u) n 0 t in
          let none : is_in v us ≡ false = subst (λ x. is_in x us ≡ false) (sym (eqb-true v u t)) d.0 in
          let r = times_none n v us none in
          omega arith)
      | inr f ↦ (
          let z : cond {A = ℕ} (v == u) n 0 ≡ 0 = cond-false {A = ℕ} (v == u) n 0 f in
          let there : is_in v us ≡ true = elim (or_cases (v == u) (is_in v us) e) [ inl t ↦ cc | inr r ↦ r ] in
          let r = times_all n v us d.1 there in
          omega arith)
    ]

pub order_exists : OrderExists
order_exists n wave d = record { occur = λ v i. times_all n v wave d i; alone = λ v i. times_none n v wave i }

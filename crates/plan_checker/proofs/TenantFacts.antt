-- Values in their buffers: where each follows the one before it, any two of one buffer may share it.
use Rattle.std.proofs.Common.{◌≡◌, ℕ, zero, suc, ◌+◌, ◌-◌, ◌<◌, ◌≤◌, List, length, map, get_or, inl, inr, sym, ap, ◌∙◌, subst, arith, Contains, None}
use Rattle.std.specs.List.{All, range_with_len}
use Rattle.std.proofs.lemmas.List.FromFn.{get_or-map-range_with_len, length-range_with_len}
use Rattle.std.proofs.lemmas.Bool.{cases_lt}
use Rattle.std.proofs.lemmas.List.{get_or_default, length-map}
use Rattle.std.proofs.lemmas.Option.{get_or_from_slice_get}
use Rattle.plan_model.specs.Buffers.{Follows, MayShare}
use Rattle.plan_model.specs.declared.buffers.Home.{Home}
use Rattle.plan_model.specs.declared.buffers.Life.{Life}
use Rattle.plan_checker.specs.Buffers.{AreApart}
use Rattle.plan_checker.specs.Tenants.{ComesNext, tenant_of}
use Rattle.plan_checker.specs.declared.tenants.Tenant.{Tenant}

meets : (x y : Life) → Follows x y → x.dies ≤ y.born
meets x y (inl l) = omega arith
meets x y (inr r) = omega (arith, r.0)

through : (x y z : Tenant) → y.life.born < y.life.dies → ComesNext x y → ComesNext y z → ComesNext x z
through x y z lasts (inl a) (inl b) = inl (omega arith)
through x y z lasts (inl a) (inr b) = inl (omega (arith, b.0))
through x y z lasts (inr a) (inl b) = inl (omega (arith, a.0))
through x y z lasts (inr a) (inr b) = let m = meets x.life y.life a.1 in let n = meets y.life z.life b.1 in inr (a.0 ∙ b.0, inl (omega arith))

module _ (ts : List Tenant) (turns : (k : ℕ) (d : Tenant) → k + 1 < length ts → ComesNext (get_or ts k d) (get_or ts (k + 1) d)) (lasting : All (λ t. t.life.born < t.life.dies) ts) where
  far : (n i : ℕ) (d : Tenant) → i + suc n < length ts → ComesNext (get_or ts i d) (get_or ts (i + suc n) d)
  far zero i d lt = let next : i + 1 ≡ i + suc zero = omega arith in subst (λ j. ComesNext (get_or ts i d) (get_or ts j d)) next (turns i d (omega arith))
  far (suc n) i d lt =
      let next : i + suc n + 1 ≡ i + suc (suc n) = omega arith in
      let last : ComesNext (get_or ts (i + suc n) d) (get_or ts (i + suc (suc n)) d) =
      subst (λ j. ComesNext (get_or ts (i + suc n) d) (get_or ts j d)) next (turns (i + suc n) d (omega arith)) in
      through (get_or ts i d) (get_or ts (i + suc n) d) (get_or ts (i + suc (suc n)) d) (lasting (i + suc n) d (omega arith)) (far n i d (omega arith)) last

  pairs : (i j : ℕ) (d : Tenant) → i < j → j < length ts → ComesNext (get_or ts i d) (get_or ts j d)
  pairs i j d lt l =
      let place : i + suc (j - i - 1) ≡ j = omega arith in
      subst (λ k. ComesNext (get_or ts i d) (get_or ts k d)) place (far (j - i - 1) i d (omega arith))

  in_order : (a b : Tenant) (i j : ℕ) → i < j → j < length ts → get_or ts i a ≡ a → get_or ts j b ≡ b → a.buffer ≡ b.buffer → Follows a.life b.life
  in_order a b i j lt l ea eb same =
      let second : get_or ts j a ≡ b = get_or_default ts j a b l ∙ eb in
      let next : ComesNext a b = subst (λ y. ComesNext a y) second (subst (λ x. ComesNext x (get_or ts j a)) ea (pairs i j a lt l)) in
      elim next [ inl less ↦ absurd (omega arith) | inr r ↦ r.1 ]

  pub may_share : (a b : Tenant) → Contains ts a → Contains ts b → (a.value ≡ b.value → ⊥) → a.buffer ≡ b.buffer → MayShare a.life b.life
  may_share a b (i, li, ea) (j, lj, eb) other same =
      elim (cases_lt i j) [
        | inl before ↦ inl (in_order a b i j before lj ea eb same)
        | inr le ↦
            elim (cases_lt j i) [
              | inl after ↦ inr (in_order b a j i after li eb ea (sym same))
              | inr back ↦
                  (let place : i ≡ j = omega arith in
                  let one : a ≡ b = sym ea ∙ ap (λ k. get_or ts k a) place ∙ get_or_default ts j a b lj ∙ eb in
                  absurd (other (ap (λ (t : Tenant). t.value) one)))
            ]
      ]

abbrev nobody : Life
nobody = record { uid = record { 0 = 0 }; channel = 0; born = 0; dies = 0; reader = None }

abbrev nowhere : Home
nowhere = record { uid = record { 0 = 0 }; channel = 0; buffer = 0 }

pub apart_by_tenants : (lives : List Life) (homes : List Home) (j k : ℕ)
    → ((tenant_of lives homes j).buffer ≡ (tenant_of lives homes k).buffer → MayShare (tenant_of lives homes j).life (tenant_of lives homes k).life) → AreApart lives homes j k
apart_by_tenants lives homes j k share y x i h ey ex ei eh same =
    let first = get_or_from_slice_get lives j y nobody ey in
    let second = get_or_from_slice_get lives k x nobody ex in
    let one = get_or_from_slice_get homes j i nowhere ei in
    let two = get_or_from_slice_get homes k h nowhere eh in
    let buffers : (get_or homes j nowhere).buffer ≡ (get_or homes k nowhere).buffer = ap (λ (z : Home). z.buffer) one ∙ same ∙ sym (ap (λ (z : Home). z.buffer) two) in
    subst (λ z. MayShare y z) second (subst (λ z. MayShare z (get_or lives k nobody)) first (share buffers))

module _ (lives : List Life) (homes : List Home) where
  at_index : (k : ℕ) (d : Tenant) → k < length homes → get_or (map (tenant_of lives homes) (range_with_len 0 (length homes))) k d ≡ tenant_of lives homes k
  at_index k d lt = get_or-map-range_with_len (tenant_of lives homes) 0 (length homes) k k d lt (omega arith)

  count : length (map (tenant_of lives homes) (range_with_len 0 (length homes))) ≡ length homes
  count = length-map (range_with_len 0 (length homes)) (tenant_of lives homes) ∙ length-range_with_len 0 (length homes)

  pub has_tenant : (k : ℕ) → k < length homes → Contains (map (tenant_of lives homes) (range_with_len 0 (length homes))) (tenant_of lives homes k)
  has_tenant k lt = (k, omega (arith, count), at_index k (tenant_of lives homes k) lt)

  pub all_last : length lives ≡ length homes → All (λ x. x.born < x.dies) lives
      → All (λ t. t.life.born < t.life.dies) (map (tenant_of lives homes) (range_with_len 0 (length homes)))
  all_last each lasting k d lt =
      let within : k < length homes = omega (arith, count) in
      subst (λ (t : Tenant). t.life.born < t.life.dies) (sym (at_index k d within)) (lasting k nobody (omega arith))

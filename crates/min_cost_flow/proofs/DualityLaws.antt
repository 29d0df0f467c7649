-- Weak duality: what the potentials rise along the units of a flow is the sum of need times potential.
use Rattle.std.proofs.Common.{◌≡◌, ℕ, zero, suc, ◌<◌, ℤ, pos, negsuc, ◌+ℤ◌, ◌-ℤ◌, ◌*ℤ◌, ◌≤ℤ◌, List, [], ◌∷◌, Some, refl, sym, ap, ◌∙◌, arith, inl, inr, cond, ◌==◌, slice_get}
use Rattle.std.specs.List.{AllByRecursion}
use lib.IntN.{suc_ℤ, suc_ℤ-*ℤ, zero-*ℤ}
use Rattle.std.proofs.lemmas.Int.{ints}
use Rattle.std.proofs.lemmas.Bool.{cases_eq}
use Rattle.std.proofs.lemmas.Bool.Decides.{nat_tests}
use Rattle.std.proofs.lemmas.List.Elements.{recursion_from_All}
use Rattle.shortest_paths.specs.Walks.{number_of}
use Rattle.min_cost_flow.specs.declared.network.Arc.{Arc}
use Rattle.min_cost_flow.specs.declared.network.Network.{Network}
use Rattle.min_cost_flow.specs.Flow.{IsTight}
use Rattle.min_cost_flow.specs.Residual.{net_of, units_at}
use Rattle.min_cost_flow.specs.Laws.{JoinsPoints, IsFlowOf, weighted, sum_over, bound_of, WeakDuality, TightReachesBound, TightIsOptimal}

-- ---- a product by a number of units
one_more : (x : ℤ) → x +ℤ pos 1 ≡ suc_ℤ x
one_more (pos n) = omega (arith, ints)
one_more (negsuc zero) = refl
one_more (negsuc (suc n)) = omega (arith, ints)

times-suc : (n : ℕ) (z : ℤ) → pos (suc n) *ℤ z ≡ pos n *ℤ z +ℤ z
times-suc n z = suc_ℤ-*ℤ (pos n) z

plus-times : (x : ℤ) (n : ℕ) (z : ℤ) → (x +ℤ pos n) *ℤ z ≡ x *ℤ z +ℤ pos n *ℤ z
plus-times x zero z =
    let same : x +ℤ pos 0 ≡ x = omega (arith, ints) in
    let e = ap (λ y. y *ℤ z) same in
    let none = zero-*ℤ z in
    omega (arith, ints)
plus-times x (suc n) z =
    let ih = plus-times x n z in
    let split : x +ℤ pos (suc n) ≡ (x +ℤ pos n) +ℤ pos 1 = omega (arith, ints) in
    let e = ap (λ y. y *ℤ z) (split ∙ one_more (x +ℤ pos n)) in
    let more = suc_ℤ-*ℤ (x +ℤ pos n) z in
    let units = times-suc n z in
    omega (arith, ints)

balance-times : (x y : ℤ) (b a : ℕ) (z : ℤ) → (x +ℤ pos b) ≡ (y +ℤ pos a) → (x *ℤ z +ℤ pos b *ℤ z) ≡ (y *ℤ z +ℤ pos a *ℤ z)
balance-times x y b a z e = sym (plus-times x b z) ∙ ap (λ t. t *ℤ z) e ∙ plus-times y a z

times-mono : (n : ℕ) (x y z : ℤ) → (z +ℤ x) ≤ℤ y → (pos n *ℤ z +ℤ pos n *ℤ x) ≤ℤ (pos n *ℤ y)
times-mono zero x y z h = let a = zero-*ℤ x in let b = zero-*ℤ y in let c = zero-*ℤ z in omega (arith, ints)
times-mono (suc n) x y z h =
    let ih = times-mono n x y z h in let a = times-suc n x in let b = times-suc n y in let c = times-suc n z in omega (arith, ints)

times-same : (n : ℕ) (x y z : ℤ) → (z +ℤ x) ≡ y → (pos n *ℤ z +ℤ pos n *ℤ x) ≡ pos n *ℤ y
times-same zero x y z h = let a = zero-*ℤ x in let b = zero-*ℤ y in let c = zero-*ℤ z in omega (arith, ints)
times-same (suc n) x y z h =
    let ih = times-same n x y z h in let a = times-suc n x in let b = times-suc n y in let c = times-suc n z in omega (arith, ints)

-- ---- sums over points
sum-none : (n : ℕ) (f : ℕ → ℤ) → ((v : ℕ) → v < n → f v ≡ pos 0) → sum_over n f ≡ pos 0
sum-none zero f h = refl
sum-none (suc n) f h = let ih = sum-none n f (λ v l. h v (omega arith)) in let here = h n (omega arith) in omega (arith, ints)

sum-same : (n : ℕ) (f g : ℕ → ℤ) → ((v : ℕ) → v < n → f v ≡ g v) → sum_over n f ≡ sum_over n g
sum-same zero f g h = refl
sum-same (suc n) f g h = let ih = sum-same n f g (λ v l. h v (omega arith)) in let here = h n (omega arith) in omega (arith, ints)

sum-balance : (n : ℕ) (f g a b : ℕ → ℤ) → ((v : ℕ) → (f v +ℤ b v) ≡ (g v +ℤ a v)) → (sum_over n f +ℤ sum_over n b) ≡ (sum_over n g +ℤ sum_over n a)
sum-balance zero f g a b h = refl
sum-balance (suc n) f g a b h = let ih = sum-balance n f g a b h in let here = h n in omega (arith, ints)

-- units at one point alone
sum-at : (n h units : ℕ) (p : ℕ → ℤ) → h < n → sum_over n (λ v. pos (units_at units h v) *ℤ p v) ≡ pos units *ℤ p h
sum-at zero h units p l = absurd (omega arith)
sum-at (suc n) h units p l =
    elim (cases_eq h n) [
      | inl same ↦
          let past = sum-none n (λ v. pos (units_at units h v) *ℤ p v) (λ v m. let none = elsewhere v (omega arith) in ap (λ x. pos x *ℤ p v) none ∙ zero-*ℤ (p v)) in
          let here : cond (h == n) units 0 ≡ units = grind (arith, nat_tests) in
          let e = ap (λ x. pos x *ℤ p n) here in
          let f = ap (λ x. pos units *ℤ p x) same in
          omega (arith, ints)
      | inr ne ↦
          let ih = sum-at n h units p (omega arith) in
          let none : cond (h == n) units 0 ≡ 0 = grind (arith, nat_tests) in
          let e = ap (λ x. pos x *ℤ p n) none ∙ zero-*ℤ (p n) in
          omega (arith, ints)
    ]
  where
    elsewhere : (v : ℕ) → v < h → cond (h == v) units 0 ≡ 0
    elsewhere v m = grind (arith, nat_tests)

-- ---- what the potentials rise along the units is the sum over the points of units in minus units out, times the
-- potential
net-rises : (n : ℕ) (p : ℕ → ℤ) (arcs : List Arc) (flow : List ℕ) → AllByRecursion (λ (a : Arc). (a.tail < n) × (a.head < n)) arcs →
    (sum_over n (λ v. net_of arcs flow v *ℤ p v) +ℤ weighted (λ a. p a.tail) arcs flow) ≡ weighted (λ a. p a.head) arcs flow
net-rises n p [] flow h = let none = sum-none n (λ v. net_of [] flow v *ℤ p v) (λ v l. zero-*ℤ (p v)) in omega (arith, ints)
net-rises n p (a ∷ arcs) [] h = let none = sum-none n (λ v. net_of (a ∷ arcs) [] v *ℤ p v) (λ v l. zero-*ℤ (p v)) in omega (arith, ints)
net-rises n p (a ∷ arcs) (units ∷ flow) h =
    let rest = net-rises n p arcs flow h.1 in
    let leaves = sum-at n a.tail units p h.0.0 in
    let arrives = sum-at n a.head units p h.0.1 in
    let both = sum-balance n (λ v. net_of (a ∷ arcs) (units ∷ flow) v *ℤ p v) (λ v. net_of arcs flow v *ℤ p v)
    (λ v. pos (units_at units a.head v) *ℤ p v) (λ v. pos (units_at units a.tail v) *ℤ p v)
    (λ v. balance-times (net_of (a ∷ arcs) (units ∷ flow) v) (net_of arcs flow v) (units_at units a.tail v) (units_at units a.head v) (p v) (first v)) in
    omega (arith, ints)
  where
    first : (v : ℕ) → (net_of (a ∷ arcs) (units ∷ flow) v +ℤ pos (units_at units a.tail v)) ≡ (net_of arcs flow v +ℤ pos (units_at units a.head v))
    first v = omega (arith, ints)

bound-rises : (net : Network) (flow : List ℕ) (p : ℕ → ℤ) → JoinsPoints net → IsFlowOf net flow →
    (bound_of net p +ℤ weighted (λ a. p a.tail) net.arcs flow) ≡ weighted (λ a. p a.head) net.arcs flow
bound-rises net flow p joins meets =
    let rises = net-rises net.points p net.arcs flow (recursion_from_All (λ (a : Arc). (a.tail < net.points) × (a.head < net.points)) net.arcs joins) in
    let same = sum-same net.points (λ v. net_of net.arcs flow v *ℤ p v) (λ v. number_of net.need v *ℤ p v) (λ v l. ap (λ x. x *ℤ p v) (meets v l)) in
    omega (arith, ints)

-- ---- the weight is at most that, and just that where units are on tight arcs alone
weight-below : (p : ℕ → ℤ) (arcs : List Arc) (flow : List ℕ) → ((k : ℕ) (a : Arc) → slice_get arcs k ≡ Some a → a.least ≤ℤ (p a.head -ℤ p a.tail)) →
    (weighted (λ a. a.least) arcs flow +ℤ weighted (λ a. p a.tail) arcs flow) ≤ℤ weighted (λ a. p a.head) arcs flow
weight-below p [] flow h = omega (arith, ints)
weight-below p (a ∷ arcs) [] h = omega (arith, ints)
weight-below p (a ∷ arcs) (units ∷ flow) h =
    let rest = weight-below p arcs flow (λ k b at. h (suc k) b at) in
    let here = h 0 a refl in
    let one = times-mono units (p a.tail) (p a.head) a.least (omega (arith, ints)) in
    omega (arith, ints)

weight-reached : (p : ℕ → ℤ) (arcs : List Arc) (flow : List ℕ) → IsTight arcs flow p →
    (weighted (λ a. a.least) arcs flow +ℤ weighted (λ a. p a.tail) arcs flow) ≡ weighted (λ a. p a.head) arcs flow
weight-reached p [] flow t = omega (arith, ints)
weight-reached p (a ∷ arcs) [] t = omega (arith, ints)
weight-reached p (a ∷ arcs) (units ∷ flow) t =
    let rest = weight-reached p arcs flow (record { rises = λ k b at. t.rises (suc k) b at; no_more = λ k b at some. t.no_more (suc k) b at some }) in
    let one = reached units (t.rises 0 a refl) (t.no_more 0 a refl) in
    omega (arith, ints)
  where
    reached : (n : ℕ) → a.least ≤ℤ (p a.head -ℤ p a.tail) → (0 < n → (p a.head -ℤ p a.tail) ≤ℤ a.least) →
        (pos n *ℤ a.least +ℤ pos n *ℤ p a.tail) ≡ pos n *ℤ p a.head
    reached zero rises no_more = let x = zero-*ℤ (p a.tail) in let y = zero-*ℤ (p a.head) in let z = zero-*ℤ a.least in omega (arith, ints)
    reached (suc n) rises no_more =
        let le = no_more (omega arith) in
        times-same (suc n) (p a.tail) (p a.head) a.least (omega (arith, ints))

-- ---- the laws
pub weak_duality_law : WeakDuality
weak_duality_law net flow p joins meets keeps =
    let below = weight-below p net.arcs flow keeps in
    let rises = bound-rises net flow p joins meets in
    omega (arith, ints)

pub tight_reaches_bound_law : TightReachesBound
tight_reaches_bound_law net flow p joins meets tight =
    let reached = weight-reached p net.arcs flow tight in
    let rises = bound-rises net flow p joins meets in
    omega (arith, ints)

pub tight_is_optimal_law : TightIsOptimal
tight_is_optimal_law net flow p joins meets tight =
    let same = tight_reaches_bound_law net flow p joins meets tight in (
      (λ other met. let weak = weak_duality_law net other p joins met tight.rises in omega (arith, ints)),
      (λ other keeps. let weak = weak_duality_law net flow other joins meets keeps in omega (arith, ints)),
    )

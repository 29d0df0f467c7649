-- What units more or fewer on an arc change.
use Rattle.std.proofs.Common.{◌≡◌, ℕ, zero, suc, ◌+◌, ◌-◌, ◌<◌, ◌≤◌, pos, ◌+ℤ◌, List, [], ◌∷◌, length, set, Some, subst, arith, slice_get, slice_index, cond, Bool, true, false, nat_eq}
use Rattle.std.proofs.lemmas.Int.{ints}
use Rattle.min_cost_flow.specs.declared.network.Arc.{Arc}
use Rattle.min_cost_flow.specs.Flow.{units_where}
use Rattle.min_cost_flow.specs.Residual.{net_of, units_at}

-- the units on the arcs that pass a test, where one arc gets g units in the place of those that it had
units-set : (test : Arc → Bool) (arcs : List Arc) (flow : List ℕ) (k : ℕ) (a : Arc) (g : ℕ) → slice_get arcs k ≡ Some a → k < length flow →
    units_where test arcs (set flow k g) + cond (test a) (slice_index flow k) 0 ≡ units_where test arcs flow + cond (test a) g 0
units-set test [] flow k a g at l = absurd (cc)
units-set test (b ∷ arcs) [] k a g at l = absurd (omega arith)
units-set test (b ∷ arcs) (f ∷ flow) zero a g at l =
    let same : b ≡ a = cc in
    subst (λ c. cond (test b) g 0 + units_where test arcs flow + cond (test c) f 0 ≡ cond (test b) f 0 + units_where test arcs flow + cond (test c) g 0) same (omega arith)
units-set test (b ∷ arcs) (f ∷ flow) (suc k) a g at l = let ih = units-set test arcs flow k a g at (omega arith) in omega arith

by_more : (b : Bool) (x y f g : ℕ) → y + cond b f 0 ≡ x + cond b (f + g) 0 → y ≡ x + cond b g 0
by_more true x y f g h = omega arith
by_more false x y f g h = omega arith

by_fewer : (b : Bool) (x y f g : ℕ) → g ≤ f → y + cond b f 0 ≡ x + cond b (f - g) 0 → y + cond b g 0 ≡ x
by_fewer true x y f g p h = omega arith
by_fewer false x y f g p h = omega arith

pub net-more : (arcs : List Arc) (flow : List ℕ) (k v g : ℕ) (a : Arc) → slice_get arcs k ≡ Some a → k < length flow →
    net_of arcs (set flow k (slice_index flow k + g)) v +ℤ pos (units_at g a.tail v) ≡ net_of arcs flow v +ℤ pos (units_at g a.head v)
net-more arcs flow k v g a at l =
    let ins = by_more (nat_eq a.head v) _ _ (slice_index flow k) g (units-set (λ b. nat_eq b.head v) arcs flow k a (slice_index flow k + g) at l) in
    let outs = by_more (nat_eq a.tail v) _ _ (slice_index flow k) g (units-set (λ b. nat_eq b.tail v) arcs flow k a (slice_index flow k + g) at l) in
    omega (arith, ints)

pub net-fewer : (arcs : List Arc) (flow : List ℕ) (k v g : ℕ) (a : Arc) → slice_get arcs k ≡ Some a → k < length flow → g ≤ slice_index flow k →
    net_of arcs (set flow k (slice_index flow k - g)) v +ℤ pos (units_at g a.head v) ≡ net_of arcs flow v +ℤ pos (units_at g a.tail v)
net-fewer arcs flow k v g a at l there =
    let ins = by_fewer (nat_eq a.head v) _ _ (slice_index flow k) g there (units-set (λ b. nat_eq b.head v) arcs flow k a (slice_index flow k - g) at l) in
    let outs = by_fewer (nat_eq a.tail v) _ _ (slice_index flow k) g there (units-set (λ b. nat_eq b.tail v) arcs flow k a (slice_index flow k - g) at l) in
    omega (arith, ints)

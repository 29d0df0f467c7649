-- The beginning, one turn and the end of the solver's loop.
use Rattle.std.proofs.Common.{◌≡◌, ◌≢◌, ℕ, zero, suc, ◌+◌, ◌*◌, ◌<◌, ◌≤◌, ◌^◌, ℤ, pos, negsuc, ◌+ℤ◌, ◌-ℤ◌, neg_ℤ, ◌≤ℤ◌, ◌<ℤ◌, List, [], ◌∷◌, ◌++◌, length, set, map, replicate, Option, Some, None, inl, inr, refl, sym, ap, subst, ◌∙◌, arith, slice_get, slice_index, get_or, cond, nat_eq, Bool, true, false, get_or-set_same, get_or-set_other, length-set, take, drop, min, unsigned_abs, to_z, w64}
use Rattle.std.proofs.Math.Nat.{min-le_left, min-le_right, le-min}
use Rattle.std.proofs.Math.Seq.{take-append_seam}
use Rattle.std.specs.List.{Contains, All}
use Rattle.std.specs.Option.{MatchOption}
use Rattle.std.proofs.lemmas.Int.{ints, to_z_pos}
use Rattle.std.proofs.lemmas.Bool.{cases_eq}
use Rattle.std.proofs.lemmas.Bool.Decides.{nat_tests}
use Rattle.std.proofs.lemmas.List.{length-replicate, get_or_default}
use Rattle.std.proofs.lemmas.List.Sums.{sum_by-set, sum_by-cons}
use Rattle.std.proofs.lemmas.List.Elements.{All-head, All-tail}
use Rattle.std.proofs.lemmas.Option.{slice_get-get_or, slice_get_within, get_or_from_slice_get}
use Rattle.min_cost_flow.specs.declared.network.Arc.{Arc}
use Rattle.min_cost_flow.specs.declared.network.Network.{Network}
use Rattle.min_cost_flow.specs.Flow.{IsNetwork, IsTight, MeetsNeeds, HasNoPositiveCycle, length_of, units_where, total_of}
use Rattle.min_cost_flow.specs.Residual.{forward, net_of, units_at}
use Rattle.min_cost_flow.specs.Search.{potential_of}
use Rattle.min_cost_flow.specs.Solve.{IsMeeting, wanted}
use Rattle.shortest_paths.specs.declared.edges.Edge.{Edge}
use Rattle.shortest_paths.specs.Walks.{IsWalk, IsWithin, Joins, Reaches, HasNoNegativeCycle, IsLeastCost, number_of, cost_of, from_zero}
use Rattle.shortest_paths.specs.Nearest.{Permits, IsLinked, AreSmall}
use Rattle.shortest_paths.proofs.WalkLaws.{some_same, edge_at}

-- ---- the empty flow

no_units : (test : Arc → Bool) (arcs : List Arc) (n : ℕ) → units_where test arcs (replicate n 0) ≡ 0
no_units test [] n = refl
no_units test (a ∷ arcs) zero = refl
no_units test (a ∷ arcs) (suc n) = let ih = no_units test arcs n in by (test a) ih
  where
    by : (b : Bool) → units_where test arcs (replicate n 0) ≡ 0 → cond b 0 0 + units_where test arcs (replicate n 0) ≡ 0
    by true h = omega arith
    by false h = omega arith

index_of_zeros : (n k : ℕ) → slice_index (replicate n 0) k ≡ 0
index_of_zeros zero k = refl
index_of_zeros (suc n) zero = refl
index_of_zeros (suc n) (suc k) = index_of_zeros n k

-- ---- the forward edges, by which the first potentials are found

at_forward : (xs : List Arc) (e : Edge) (k : ℕ) → slice_get (map forward xs) k ≡ Some e → (a : Arc) × (slice_get xs k ≡ Some a) × (forward a ≡ e)
at_forward [] e k h = absurd (cc)
at_forward (a ∷ xs) e zero h = (a, refl, some_same (forward a) e h)
at_forward (a ∷ xs) e (suc k) h = at_forward xs e k h

forward_at : (xs : List Arc) (a : Arc) (k : ℕ) → slice_get xs k ≡ Some a → slice_get (map forward xs) k ≡ Some (forward a)
forward_at [] a k h = absurd (cc)
forward_at (b ∷ xs) a zero h = ap (λ x. Some (forward x)) (some_same b a h)
forward_at (b ∷ xs) a (suc k) h = forward_at xs a k h

at_length : (xs : List Arc) (e : Edge) (k : ℕ) → slice_get (map length_of xs) k ≡ Some e → (a : Arc) × (slice_get xs k ≡ Some a) × (length_of a ≡ e)
at_length [] e k h = absurd (cc)
at_length (a ∷ xs) e zero h = (a, refl, some_same (length_of a) e h)
at_length (a ∷ xs) e (suc k) h = at_length xs e k h

length_at : (xs : List Arc) (a : Arc) (k : ℕ) → slice_get xs k ≡ Some a → slice_get (map length_of xs) k ≡ Some (length_of a)
length_at [] a k h = absurd (cc)
length_at (b ∷ xs) a zero h = ap (λ x. Some (length_of x)) (some_same b a h)
length_at (b ∷ xs) a (suc k) h = length_at xs a k h

place_of : {X : Type 0} (xs : List X) (x : X) → Contains xs x → (k : ℕ) × (slice_get xs k ≡ Some x)
place_of xs x h = (h.0, slice_get-get_or xs h.0 x h.1 ∙ ap Some h.2)

-- a walk over them is one over the arcs, with each cost turned
turn : (arcs : List Arc) (walk : List Edge) (u v : ℕ) → IsWalk (map forward arcs) u walk v → (t : List Edge) × IsWalk (map length_of arcs) u t v × (cost_of t ≡ neg_ℤ (cost_of walk))
turn arcs [] u v h = ([], h, refl)
turn arcs (e ∷ walk) u v h =
    let rest = turn arcs walk e.head v h.2 in
    let k = place_of (map forward arcs) e h.0 in
    let a = at_forward arcs e k.0 k.1 in
    let tail = ap (λ (x : Edge). x.tail) a.2 in
    let head = ap (λ (x : Edge). x.head) a.2 in
    let cost = ap (λ (x : Edge). x.cost) a.2 in
    let sum = rest.2 in
    (length_of a.0 ∷ rest.0, (edge_at (map length_of arcs) k.0 (length_of a.0) (length_at arcs a.0 k.0 a.1), tail ∙ h.1, subst (λ x. IsWalk (map length_of arcs) x rest.0 v) (sym head) rest.1), omega (arith, ints))

pub forward_cycles : (arcs : List Arc) → HasNoPositiveCycle arcs → HasNoNegativeCycle (map forward arcs)
forward_cycles arcs cycles v walk w = let t = turn arcs walk v v w in let q = cycles v t.0 t.1 in let same = t.2 in omega (arith, ints)

pub forward_reached : (arcs : List Arc) (u v : ℕ) → Reaches (map length_of arcs) u v → Reaches (map forward arcs) u v
forward_reached arcs u v r = back r.0 u r.1
  where
    back : (walk : List Edge) (u : ℕ) → IsWalk (map length_of arcs) u walk v → Reaches (map forward arcs) u v
    back [] u h = ([], h)
    back (e ∷ walk) u h =
        let rest = back walk e.head h.2 in
        let k = place_of (map length_of arcs) e h.0 in
        let a = at_length arcs e k.0 k.1 in
        let tail = ap (λ (x : Edge). x.tail) a.2 in
        let head = ap (λ (x : Edge). x.head) a.2 in
        (forward a.0 ∷ rest.0, (edge_at (map forward arcs) k.0 (forward a.0) (forward_at arcs a.0 k.0 a.1), tail ∙ h.1, subst (λ x. IsWalk (map forward arcs) x rest.0 v) (sym head) rest.1))

pub forward_length : (arcs : List Arc) → length (map forward arcs) ≡ length arcs
forward_length [] = refl
forward_length (a ∷ arcs) = ap suc (forward_length arcs)

pub forward_joins : (points : ℕ) (arcs : List Arc) → All (λ (a : Arc). (a.tail < points) × (a.head < points)) arcs → All (Joins points) (map forward arcs)
forward_joins points arcs ends k d l =
    let at = slice_get-get_or (map forward arcs) k d l in
    let a = at_forward arcs (get_or (map forward arcs) k d) k at in
    let q = ends k a.0 (slice_get_within arcs k a.0 a.1) in
    let q' = subst (λ (x : Arc). (x.tail < points) × (x.head < points)) (get_or_from_slice_get arcs k a.0 a.0 a.1) q in
    subst (Joins points) a.2 (q'.0, q'.1)

pub forward_costs : (arcs : List Arc) → All (λ (a : Arc). IsWithin (2 ^ 30) a.least) arcs → All (λ (e : Edge). IsWithin (2 ^ 46) e.cost) (map forward arcs)
forward_costs arcs leasts k d l =
    let at = slice_get-get_or (map forward arcs) k d l in
    let a = at_forward arcs (get_or (map forward arcs) k d) k at in
    let q = leasts k a.0 (slice_get_within arcs k a.0 a.1) in
    let q' = subst (λ (x : Arc). IsWithin (2 ^ 30) x.least) (get_or_from_slice_get arcs k a.0 a.0 a.1) q in
    let low = q'.0 in let high = q'.1 in
    subst (λ (e : Edge). IsWithin (2 ^ 46) e.cost) a.2 (omega (arith, ints), omega (arith, ints))

-- least costs over them are tight potentials for the flow of no units
pub first_tight : (arcs : List Arc) (n : ℕ) (least : List ℤ) → Permits (map forward arcs) least → IsTight arcs (replicate n 0) (potential_of least)
first_tight arcs n least permits = record {
  rises = λ k a h. let q = permits (forward a) (edge_at (map forward arcs) k (forward a) (forward_at arcs a k h)) in omega (arith, ints);
  no_more = λ k a h some. absurd (let none = index_of_zeros n k in omega arith);
}

-- the least cost of a walk from a point to itself is 0
pub least_at_root : (edges : List Edge) (from : ℕ) (least : List ℤ) → HasNoNegativeCycle edges → IsLeastCost edges from from (number_of least from) → number_of least from ≡ pos 0
least_at_root edges from least none c =
    let w = c.walked in
    let cycle = none from w.0 w.1 in
    let same = w.2 in
    let empty = c.none_less [] refl in
    omega (arith, ints)

wanted_within : (need : List ℤ) → All (IsWithin (2 ^ 14)) need → wanted need ≤ 2 ^ 14 * length need
wanted_within [] h = omega arith
wanted_within (x ∷ need) h =
    let ih = wanted_within need (All-tail (IsWithin (2 ^ 14)) x need h) in
    let one = All-head (IsWithin (2 ^ 14)) x need h in
    let here = by x one.1 in
    omega (arith, sum_by-cons from_zero x need)
  where
    by : (z : ℤ) → z ≤ℤ pos (2 ^ 14) → from_zero z ≤ 2 ^ 14
    by (pos n) l = omega (arith, ints)
    by (negsuc n) l = omega arith

pub IsMeeting-first : (net : Network) (flow : List ℕ) (n : ℕ) → IsNetwork net → n ≡ length net.arcs → flow ≡ replicate n 0 → IsMeeting net flow net.need
IsMeeting-first net flow n network len is = record {
  units_each = subst (λ x. length x ≡ length net.arcs) (sym is) (length-replicate n 0 ∙ len);
  unmet_each = network.one_need_each;
  unmet_is = λ v l. subst (λ x. net_of net.arcs x v +ℤ number_of net.need v ≡ number_of net.need v) (sym is)
      (let ins = no_units (λ a. nat_eq a.head v) net.arcs n in let outs = no_units (λ a. nat_eq a.tail v) net.arcs n in omega (arith, ints));
  balanced = network.balanced;
  room = λ k. let z = none k in let w = wanted_within net.need network.needs in let m = network.one_need_each in let few = network.few_points in omega arith;
}
  where
    none : (k : ℕ) → slice_index flow k ≡ 0
    none k = subst (λ x. slice_index x k ≡ 0) (sym is) (index_of_zeros n k)

-- ---- units that are sent

total_of-set : (xs : List ℤ) (i : ℕ) (y : ℤ) → i < length xs → total_of (set xs i y) +ℤ number_of xs i ≡ total_of xs +ℤ y
total_of-set [] i y l = absurd (omega arith)
total_of-set (x ∷ xs) zero y l = omega (arith, ints)
total_of-set (x ∷ xs) (suc i) y l = let ih = total_of-set xs i y (omega arith) in omega (arith, ints)

units_at-same : (n v : ℕ) → units_at n v v ≡ n
units_at-same n v = grind (arith, nat_tests)

units_at-other : (n w v : ℕ) → v ≢ w → units_at n w v ≡ 0
units_at-other n w v ne = grind (arith, nat_tests)

-- a number with n more at `from` and n less at `to`
moved : (unmet : List ℤ) (from to n : ℕ) → from < length unmet → to < length unmet → to ≢ from → (v : ℕ) →
    number_of (set (set unmet from (number_of unmet from +ℤ pos n)) to (number_of unmet to -ℤ pos n)) v +ℤ pos (units_at n to v) ≡ number_of unmet v +ℤ pos (units_at n from v)
moved unmet from to n lf lt ne v =
    elim (cases_eq v to) [
      | inl at_to ↦
          let a = subst (λ x. number_of (set (set unmet from (number_of unmet from +ℤ pos n)) to (number_of unmet to -ℤ pos n)) x ≡ number_of unmet to -ℤ pos n) (sym at_to)
          (get_or-set_same (set unmet from (number_of unmet from +ℤ pos n)) to (number_of unmet to -ℤ pos n) (pos 0) (let q = length-set unmet from (number_of unmet from +ℤ pos n) in omega arith)) in
          let b = subst (λ x. units_at n to x ≡ n) (sym at_to) (units_at-same n to) in
          let c = units_at-other n from v (λ e. ne (sym at_to ∙ e)) in
          let d = ap (number_of unmet) at_to in
          omega (arith, ints)
      | inr not_to ↦
          let a = get_or-set_other (set unmet from (number_of unmet from +ℤ pos n)) to v (number_of unmet to -ℤ pos n) (pos 0) not_to in
          let b = units_at-other n to v not_to in
          elim (cases_eq v from) [
            | inl at_from ↦
                let c = subst (λ x. number_of (set unmet from (number_of unmet from +ℤ pos n)) x ≡ number_of unmet from +ℤ pos n) (sym at_from) (get_or-set_same unmet from (number_of unmet from +ℤ pos n) (pos 0) lf) in
                let d = subst (λ x. units_at n from x ≡ n) (sym at_from) (units_at-same n from) in
                let e = ap (number_of unmet) at_from in
                omega (arith, ints)
            | inr not_from ↦
                let c = get_or-set_other unmet from v (number_of unmet from +ℤ pos n) (pos 0) not_from in
                let d = units_at-other n from v not_from in
                omega (arith, ints)
          ]
    ]

from_zero-below : (z : ℤ) → z ≤ℤ pos 0 → from_zero z ≡ 0
from_zero-below (pos n) h = omega (arith, ints)
from_zero-below (negsuc n) h = refl

from_zero-less : (z : ℤ) (n : ℕ) → pos n ≤ℤ z → from_zero (z -ℤ pos n) + n ≡ from_zero z
from_zero-less (pos m) n h = by (pos m -ℤ pos n) (omega (arith, ints)) (omega (arith, ints))
  where
    by : (y : ℤ) → pos 0 ≤ℤ y → y +ℤ pos n ≡ pos m → from_zero y + n ≡ m
    by (pos k) l e = omega (arith, ints)
    by (negsuc k) l e = absurd (omega (arith, ints))
from_zero-less (negsuc m) n h = absurd (omega (arith, ints))

-- what two points can at most exchange is within the unmet need of each
abs_below : (z : ℤ) (n : ℕ) → z <ℤ pos 0 → n ≤ unsigned_abs z → z ≤ℤ neg_ℤ (pos n)
abs_below (pos m) n h l = absurd (omega (arith, ints))
abs_below (negsuc m) n h l = omega (arith, ints)

abs_above : (z : ℤ) (n : ℕ) → pos 0 <ℤ z → n ≤ unsigned_abs z → pos n ≤ℤ z
abs_above (pos m) n h l = omega (arith, ints)
abs_above (negsuc m) n h l = absurd (omega (arith, ints))

abs_some : (z : ℤ) → z ≢ pos 0 → 0 < unsigned_abs z
abs_some (pos zero) h = absurd (h refl)
abs_some (pos (suc m)) h = omega arith
abs_some (negsuc m) h = omega arith

-- n units can go from one point to another within the unmet needs of both
pub record IsWithinNeeds (unmet : List ℤ) (from to n : ℕ) : Type 0 where
  pub from_in : from < length unmet
  pub to_in : to < length unmet
  pub apart : to ≢ from
  pub below : number_of unmet from ≤ℤ neg_ℤ (pos n)
  pub above : pos n ≤ℤ number_of unmet to

module _ (unmet : List ℤ) (from to most : ℕ) (f : (from < length unmet) × (number_of unmet from <ℤ pos 0)) (t : (to < length unmet) × (pos 0 <ℤ number_of unmet to))
    (is : most ≡ min (unsigned_abs (number_of unmet from)) (unsigned_abs (number_of unmet to))) where
  pub most_some : 0 < most
  most_some = let below = f.1 in let above = t.1 in
      subst (λ x. 0 < x) (sym is) (le-min (abs_some (number_of unmet from) (λ e. omega (arith, ints))) (abs_some (number_of unmet to) (λ e. omega (arith, ints))))

  -- what is at most the unmet need of both is within them
  pub within_needs : (n : ℕ) → n ≤ most → IsWithinNeeds unmet from to n
  within_needs n l = record {
    from_in = f.0;
    to_in = t.0;
    apart = λ e. let q = ap (number_of unmet) e in let below = f.1 in let above = t.1 in omega (arith, ints);
    below = abs_below (number_of unmet from) n f.1 (let q = min-le_left (unsigned_abs (number_of unmet from)) (unsigned_abs (number_of unmet to)) in omega arith);
    above = abs_above (number_of unmet to) n t.1 (let q = min-le_right (unsigned_abs (number_of unmet from)) (unsigned_abs (number_of unmet to)) in omega arith);
  }

pub within_needs_of : (net : Network) (flow : List ℕ) (unmet : List ℤ) (from to most n : ℕ) → IsMeeting net flow unmet → from < net.points → to < net.points →
    (number_of unmet from <ℤ pos 0) × (pos 0 <ℤ number_of unmet to) → most ≡ min (unsigned_abs (number_of unmet from)) (unsigned_abs (number_of unmet to)) → n ≤ most → IsWithinNeeds unmet from to n
within_needs_of net flow unmet from to most n m lf lt both is le = let each = m.unmet_each in within_needs unmet from to most (omega arith, both.0) (omega arith, both.1) is n le

module _ (net : Network) (flow : List ℕ) (unmet : List ℤ) (from to n : ℕ) (m : IsMeeting net flow unmet) (x : IsWithinNeeds unmet from to n) where
  at_to' : number_of (set unmet from (number_of unmet from +ℤ pos n)) to ≡ number_of unmet to
  at_to' = get_or-set_other unmet from to (number_of unmet from +ℤ pos n) (pos 0) x.apart

  pub wanted_falls : wanted (set (set unmet from (number_of unmet from +ℤ pos n)) to (number_of unmet to -ℤ pos n)) + n ≡ wanted unmet
  wanted_falls =
      let first = sum_by-set from_zero unmet from (number_of unmet from +ℤ pos n) (pos 0) x.from_in in
      let low = x.below in
      let to_in = x.to_in in
      let len = length-set unmet from (number_of unmet from +ℤ pos n) in
      let second = sum_by-set from_zero (set unmet from (number_of unmet from +ℤ pos n)) to (number_of unmet to -ℤ pos n) (pos 0) (omega arith) in
      let same = ap from_zero at_to' in
      let a = from_zero-below (number_of unmet from) (omega (arith, ints)) in
      let a' = from_zero-below (number_of unmet from +ℤ pos n) (omega (arith, ints)) in
      let b = from_zero-less (number_of unmet to) n x.above in
      omega arith

  -- the units of one augmentation leave the counts on the arcs small
  pub room_for : (k : ℕ) → slice_index flow k + n < 2 ^ 63
  room_for k = let a = m.room k in let b = wanted_falls in omega arith

  pub fits : to_z w64 n ≡ pos n
  fits = to_z_pos w64 n (let a = room_for 0 in omega arith)

  pub IsMeeting-next : (new : List ℕ) → length new ≡ length flow →
      ((v : ℕ) → net_of net.arcs new v +ℤ pos (units_at n from v) ≡ net_of net.arcs flow v +ℤ pos (units_at n to v)) →
      ((k : ℕ) → slice_index new k ≤ slice_index flow k + 2 ^ 17 * n) →
      IsMeeting net new (set (set unmet from (number_of unmet from +ℤ pos n)) to (number_of unmet to -ℤ pos n))
  IsMeeting-next new len sent bound = record {
    units_each = len ∙ m.units_each;
    unmet_each = length-set (set unmet from (number_of unmet from +ℤ pos n)) to _ ∙ length-set unmet from _ ∙ m.unmet_each;
    unmet_is = λ v l. let a = sent v in let b = moved unmet from to n x.from_in x.to_in x.apart v in let c = m.unmet_is v l in omega (arith, ints);
    balanced =
        let a = total_of-set unmet from (number_of unmet from +ℤ pos n) x.from_in in
        let to_in = x.to_in in
        let len' = length-set unmet from (number_of unmet from +ℤ pos n) in
        let b = total_of-set (set unmet from (number_of unmet from +ℤ pos n)) to (number_of unmet to -ℤ pos n) (omega arith) in
        let c = m.balanced in
        let d = at_to' in
        omega (arith, ints);
    room = λ k. let a = bound k in let b = m.room k in let c = wanted_falls in omega arith;
  }

-- ---- the end

total_up : (ys : List ℤ) → All (λ y. pos 0 ≤ℤ y) ys → pos 0 ≤ℤ total_of ys
total_up [] g = omega (arith, ints)
total_up (y ∷ ys) g = let a = All-head (λ y. pos 0 ≤ℤ y) y ys g in let b = total_up ys (All-tail (λ y. pos 0 ≤ℤ y) y ys g) in omega (arith, ints)

total_down : (ys : List ℤ) → All (λ y. y ≤ℤ pos 0) ys → total_of ys ≤ℤ pos 0
total_down [] g = omega (arith, ints)
total_down (y ∷ ys) g = let a = All-head (λ y. y ≤ℤ pos 0) y ys g in let b = total_down ys (All-tail (λ y. y ≤ℤ pos 0) y ys g) in omega (arith, ints)

pub none_above : (xs : List ℤ) → All (λ x. pos 0 ≤ℤ x) xs → total_of xs ≤ℤ pos 0 → (v : ℕ) → number_of xs v ≡ pos 0
none_above [] h t v = refl
none_above (x ∷ xs) h t zero =
    let a = All-head (λ y. pos 0 ≤ℤ y) x xs h in let b = total_up xs (All-tail (λ y. pos 0 ≤ℤ y) x xs h) in omega (arith, ints)
none_above (x ∷ xs) h t (suc v) =
    let a = All-head (λ y. pos 0 ≤ℤ y) x xs h in none_above xs (All-tail (λ y. pos 0 ≤ℤ y) x xs h) (omega (arith, ints)) v

pub none_below : (xs : List ℤ) → All (λ x. x ≤ℤ pos 0) xs → pos 0 ≤ℤ total_of xs → (v : ℕ) → number_of xs v ≡ pos 0
none_below [] h t v = refl
none_below (x ∷ xs) h t zero =
    let a = All-head (λ y. y ≤ℤ pos 0) x xs h in let b = total_down xs (All-tail (λ y. y ≤ℤ pos 0) x xs h) in omega (arith, ints)
none_below (x ∷ xs) h t (suc v) =
    let a = All-head (λ y. y ≤ℤ pos 0) x xs h in none_below xs (All-tail (λ y. y ≤ℤ pos 0) x xs h) (omega (arith, ints)) v

pub MeetsNeeds-from_zeros : (net : Network) (flow : List ℕ) (unmet : List ℤ) → IsMeeting net flow unmet → ((v : ℕ) → number_of unmet v ≡ pos 0) → MeetsNeeds net.points net.arcs net.need flow
MeetsNeeds-from_zeros net flow unmet m zeros v l = let a = m.unmet_is v l in let b = zeros v in omega (arith, ints)

-- a list that was lent and written over, of the length that it had
pub written_back : {X : Type 0} (n : ℕ) (new old : List X) → length new ≡ n → take n (new ++ drop (length new) old) ≡ new
written_back n new old e = subst (λ k. take k (new ++ drop (length new) old) ≡ new) e (take-append_seam new (drop (length new) old))

pub number_of-map_neg : (xs : List ℤ) (v : ℕ) → number_of (map neg_ℤ xs) v ≡ neg_ℤ (number_of xs v)
number_of-map_neg [] v = refl
number_of-map_neg (x ∷ xs) zero = refl
number_of-map_neg (x ∷ xs) (suc v) = number_of-map_neg xs v

pub IsTight-same : (arcs : List Arc) (flow : List ℕ) (p q : ℕ → ℤ) → ((v : ℕ) → q v ≡ p v) → IsTight arcs flow p → IsTight arcs flow q
IsTight-same arcs flow p q same t = record {
  rises = λ k a h. let r = t.rises k a h in let x = same a.head in let y = same a.tail in omega (arith, ints);
  no_more = λ k a h some. let r = t.no_more k a h some in let x = same a.head in let y = same a.tail in omega (arith, ints);
}

-- the first point to which units are sent is one of deficit that was reached
pub first_deficit : (points from to first : ℕ) (unmet : List ℤ) (last : List (Option ℕ)) (o : Option ℕ) →
    MatchOption o ((v : ℕ) → v < points → v ≢ from → IsLinked last v) (λ v. (v < points) × (pos 0 <ℤ number_of unmet v) × (v ≢ from → IsLinked last v)) →
    ((v : ℕ) → o ≡ Some v → first ≡ v) → (o ≡ None → first ≡ to) → to < points → pos 0 <ℤ number_of unmet to → number_of unmet from <ℤ pos 0 →
    (first < points) × (pos 0 <ℤ number_of unmet first) × IsLinked last first
first_deficit points from to first unmet last None h some none l above below =
    let is = none refl in
    let apart : to ≢ from = λ e. let q = ap (number_of unmet) e in omega (arith, ints) in
    subst (λ x. (x < points) × (pos 0 <ℤ number_of unmet x) × IsLinked last x) (sym is) (l, above, h to l apart)
first_deficit points from to first unmet last (Some v) h some none l above below =
    let is = some v refl in
    let more = h.1 in
    let apart : v ≢ from = λ e. let q = ap (number_of unmet) e in omega (arith, ints) in
    subst (λ x. (x < points) × (pos 0 <ℤ number_of unmet x) × IsLinked last x) (sym is) (h.0, h.1, h.2 apart)

pub all_small : (numbers : List ℤ) → AreSmall numbers → All (IsWithin (2 ^ 62)) numbers
all_small numbers small k d l =
    let same : number_of numbers k ≡ get_or numbers k d = get_or_default numbers k (pos 0) d l in
    let q = small k in
    let low = q.0 in
    let high = q.1 in
    subst (IsWithin (2 ^ 62)) same (omega (arith, ints), omega (arith, ints))

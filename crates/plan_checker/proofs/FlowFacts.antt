-- Flows, entry by entry and point by point.
use Rattle.std.proofs.Common.{◌≡◌, ℕ, suc, ◌+◌, ◌-◌, ◌<◌, ◌==◌, ◌&&◌, List, [], ◌∷◌, ◌++◌, length, map, take, get_or, refl, sym, ap, ◌∙◌, subst, cond, true, false, Bool, inl, inr, arith, Option, Some, None, Contains, pos, ◌-ℤ◌, ◌+ℤ◌, ℤ, Bor}
use Rattle.std.specs.Prelude.{slice_get, IsSome}
use Rattle.std.specs.List.{All, find}
use Rattle.std.specs.List.Sorted.{IsStrictlyIncreasing}
use Rattle.std.specs.Option.{option_map, option_copied, is_some}
use Rattle.std.proofs.Math.Seq.{take-suc}
use Rattle.std.proofs.lemmas.Bool.{cases_lt, false≢true}
use Rattle.std.proofs.lemmas.Int.{ints}
use Rattle.std.proofs.lemmas.List.{get_or-take, length-take, get_or_default}
use Rattle.std.proofs.lemmas.List.Kept.{AllPairs-from_increasing}
use Rattle.std.proofs.lemmas.Option.{slice_get_within, get_or_from_slice_get}
use Rattle.graph_model.specs.Answers.{sum_of}
use Rattle.graph_model.specs.declared.graph.Graph.{Graph}
use Rattle.plan_model.specs.Flows.{IsBeforeArc, IsPoint, IsBalanced, arc_between, is_between, network}
use Rattle.plan_model.specs.Places.{IsArcAt}
use Rattle.plan_model.specs.Rules.{AreLiveNodes}
use Rattle.plan_model.specs.declared.flow.Units.{Units}
use Rattle.plan_checker.specs.Networks.{difference}
use Rattle.plan_checker.specs.declared.network.Constraint.{Constraint}

-- ---- arcs of the network
pub find_map : {X Y : Type 0} (f : X → Y) (p : Y → Bool) (xs : List X) → find p (map f xs) ≡ option_map f (find (λ x. p (f x)) xs)
find_map f p [] = refl
find_map f p (x ∷ xs) = go (p (f x)) (find_map f p xs)
  where
    go : (b : Bool) → find p (map f xs) ≡ option_map f (find (λ y. p (f y)) xs)
        → cond b (Some (f x)) (find p (map f xs)) ≡ option_map f (cond b (Some x) (find (λ y. p (f y)) xs))
    go true rest = refl
    go false rest = rest

pub arc_found : (g : Graph) (latency : ℕ) (net : List Constraint) → map difference net ≡ network g latency → (t h : ℕ)
    → arc_between g latency t h ≡ option_map difference (find (λ a. (a.tail == t) && (a.head == h)) net)
arc_found g latency net is t h = ap (find (is_between t h)) (sym is) ∙ find_map difference (is_between t h) net

before_through : (x y z : Units) → IsBeforeArc x y → IsBeforeArc y z → IsBeforeArc x z
before_through x y z (inl a) (inl b) = inl (omega arith)
before_through x y z (inl a) (inr b) = inl (omega (arith, b.0))
before_through x y z (inr a) (inl b) = inl (omega (arith, a.0))
before_through x y z (inr a) (inr b) = inr (a.0 ∙ b.0, omega (arith, a.1, b.1))

module _ (g : Graph) (latency : ℕ) (arcs : List Units) (k : ℕ) (e : Units) (at : slice_get arcs k ≡ Some e) where
  pub no_units : e.units ≡ 0 → IsArcAt g latency arcs k → ⊥
  no_units none here = let some = (here e at).1 in omega arith

  pub no_arc : (IsSome (arc_between g latency e.tail e.head) → ⊥) → IsArcAt g latency arcs k → ⊥
  no_arc none here = none (here e at).0

  pub first_arc : k ≡ 0 → IsSome (arc_between g latency e.tail e.head) → 0 < e.units → IsArcAt g latency arcs k
  first_arc first is some x here =
      let same : e ≡ x = cc in
      let none : length (take k arcs) ≡ 0 = omega (arith, length-take k arcs) in
      subst (λ (y : Units). IsSome (arc_between g latency y.tail y.head) × (0 < y.units) × All (λ d. IsBeforeArc d y) (take k arcs)) same
      (is, some, λ i d lt. absurd (omega arith))

  module _ (d : Units) (later : 0 < k) (before : slice_get arcs (k - 1) ≡ Some d) where
    pub later_arc : IsArcAt g latency arcs (k - 1) → IsSome (arc_between g latency e.tail e.head) → 0 < e.units → IsBeforeArc d e → IsArcAt g latency arcs k
    later_arc earlier is some order x here =
        let same : e ≡ x = cc in
        subst (λ (y : Units). IsSome (arc_between g latency y.tail y.head) × (0 < y.units) × All (λ d. IsBeforeArc d y) (take k arcs)) same (is, some, all)
      where
        all : All (λ d. IsBeforeArc d e) (take k arcs)
        all i z lt =
            let size = length-take k arcs in
            let within = slice_get_within arcs (k - 1) d before in
            let lower : i < k = omega arith in
            let here_is : get_or (take k arcs) i z ≡ get_or arcs i z = get_or-take k arcs i z lower in
            subst (λ y. IsBeforeArc y e) (sym here_is)
            (elim (cases_lt i (k - 1)) [
              | inl less ↦
                  (let size2 = length-take (k - 1) arcs in
                  let one = (earlier d before).2 i z (omega arith) in
                  before_through (get_or arcs i z) d e (subst (λ y. IsBeforeArc y d) (get_or-take (k - 1) arcs i z less) one) order)
              | inr le ↦
                  (let last : k - 1 ≡ i = omega arith in
                  let mine : get_or arcs i z ≡ d = ap (λ n. get_or arcs n z) (sym last) ∙ get_or_from_slice_get arcs (k - 1) d z before in
                  subst (λ y. IsBeforeArc y e) (sym mine) order)
            ])

    pub comes_after : IsArcAt g latency arcs k → IsBeforeArc d e
    comes_after here =
        let within = slice_get_within arcs k e at in
        let size = length-take k arcs in
        let one = (here e at).2 (k - 1) d (omega arith) in
        let mine : get_or (take k arcs) (k - 1) d ≡ d = get_or-take k arcs (k - 1) d (omega arith) ∙ get_or_from_slice_get arcs (k - 1) d d before in
        subst (λ y. IsBeforeArc y e) mine one

-- ---- points
pub balance : (a b c d : ℕ) → a + b ≡ c + d → (pos a -ℤ pos c) ≡ (pos d -ℤ pos b)
balance a b c d e = omega (arith, ints)

pub balance_back : (a b c d : ℕ) → (pos a -ℤ pos c) ≡ (pos d -ℤ pos b) → a + b ≡ c + d
balance_back a b c d e = omega (arith, ints)

-- a name before the one at a place stands at a place before
earlier_place : (live : List ℕ) → IsStrictlyIncreasing live → (i v : ℕ) → i < length live → v < get_or live i 0 → Contains live v → (j : ℕ) × (j < i) × (get_or live j 0 ≡ v)
earlier_place live rising i v within less (j, lt, at) =
    let here : get_or live j 0 ≡ v = get_or_default live j 0 v lt ∙ at in
    elim (cases_lt j i) [
      | inl before ↦ (j, before, here)
      | inr le ↦
          elim (cases_lt i j) [
            | inl after ↦ (let up = AllPairs-from_increasing live rising i j 0 after lt in absurd (omega arith))
            | inr back ↦ (let same = ap (λ n. get_or live n 0) (let e : i ≡ j = omega arith in e) in absurd (omega arith))
          ]
    ]

module _ (g : Graph) (live : List ℕ) (are : AreLiveNodes g live) (arcs : List Units) (root : IsBalanced g arcs 0) where
  -- where the nodes before a place are balanced, so are the points of smaller names
  pub points_before : (i : ℕ) → i < length live → ((k : ℕ) → k < i → IsBalanced g arcs (get_or live k 0)) → (v : ℕ) → v < get_or live i 0 → IsPoint g v → IsBalanced g arcs v
  points_before i within so_far v less (inl zero_is) = subst (IsBalanced g arcs) (sym zero_is) root
  points_before i within so_far v less (inr is) =
      let e = earlier_place live are.ascending i v within less (are.all v is) in
      subst (IsBalanced g arcs) e.2 (so_far e.0 e.1)

  pub all_points : ((k : ℕ) → k < length live → IsBalanced g arcs (get_or live k 0)) → (v : ℕ) → IsPoint g v → IsBalanced g arcs v
  all_points each v (inl zero_is) = subst (IsBalanced g arcs) (sym zero_is) root
  all_points each v (inr is) =
      let has = are.all v is in
      subst (IsBalanced g arcs) (get_or_default live has.0 0 v has.1 ∙ has.2) (each has.0 has.1)

  pub bad_point : (i : ℕ) → i < length live → (IsBalanced g arcs (get_or live i 0) → ⊥) → (IsPoint g (get_or live i 0) → IsBalanced g arcs (get_or live i 0)) → ⊥
  bad_point i within bad h = bad (h (inr (are.each i 0 within)))

-- ---- sums of signed numbers
pub sum_of-push : {X : Type 0} (f : X → ℤ) (xs : List X) (x : X) → sum_of f (xs ++ x ∷ []) ≡ sum_of f xs +ℤ f x
sum_of-push f [] x = omega (arith, ints)
sum_of-push f (y ∷ xs) x = let rest = sum_of-push f xs x in omega (arith, ints)

pub sum_of-more : {X : Type 0} (f : X → ℤ) (xs : List X) (k : ℕ) (d : X) → k < length xs → sum_of f (take (k + 1) xs) ≡ sum_of f (take k xs) +ℤ f (get_or xs k d)
sum_of-more f xs k d lt =
    let next : suc k ≡ k + 1 = omega arith in
    subst (λ n. sum_of f (take n xs) ≡ sum_of f (take k xs) +ℤ f (get_or xs k d)) next (ap (sum_of f) (take-suc xs k d lt) ∙ sum_of-push f (take k xs) (get_or xs k d))

-- ---- what a look-up finds
pub nothing_found : (o : Option (Bor Constraint)) (x : Option Constraint) → option_copied o ≡ x → is_some o ≡ false → IsSome x → ⊥
nothing_found None x e none some = absurd (false≢true (ap is_some e ∙ some))
nothing_found (Some r) x e none some = absurd (false≢true (sym none))

pub something_found : (o : Option (Bor Constraint)) (x : Option Constraint) → option_copied o ≡ x → is_some o ≡ true → IsSome x
something_found None x e some = absurd (false≢true some)
something_found (Some r) x e some = sym (ap is_some e)

pub mapped_some : {X Y : Type 0} (f : X → Y) (o : Option X) → IsSome o → IsSome (option_map f o)
mapped_some f None some = absurd (false≢true some)
mapped_some f (Some x) some = refl

pub some_mapped : {X Y : Type 0} (f : X → Y) (o : Option X) → IsSome (option_map f o) → IsSome o
some_mapped f None some = absurd (false≢true some)
some_mapped f (Some x) some = refl

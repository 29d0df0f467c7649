-- The points that wait during a search.
use Rattle.std.proofs.Common.{◌≡◌, ◌≢◌, ℕ, zero, suc, ◌<◌, ◌≤◌, ◌^◌, ◌⊎◌, ℤ, pos, ◌+ℤ◌, ◌≤ℤ◌, ◌<ℤ◌, List, [], ◌∷◌, length, set, replicate, slice_get, slice_index_or, Option, Some, None, inl, inr, refl, sym, ap, subst, ◌∙◌, arith, get_or-set_same, get_or-set_other, length-set, false}
use Rattle.std.specs.List.{Contains, All}
use Rattle.std.specs.List.Sorted.{IsPermutation}
use Rattle.std.specs.BinaryHeap.{IsHeap, IsUpperBound}
use Rattle.std.specs.declared.cmp.Ordering.{Ordering}
use Rattle.std.specs.declared.cmp.Ordering.TheVariants.{Less, Equal, Greater}
use Rattle.std.specs.Ordering.{is_lt, int_cmp, ordering_then, MatchOrdering}
use Rattle.std.specs.Cmp.{int_ranks}
use Rattle.std.proofs.lemmas.List.{length-replicate}
use Rattle.std.proofs.lemmas.List.Sorted.{Contains-permutation}
use Rattle.std.proofs.lemmas.Int.{ints}
use Rattle.std.proofs.lemmas.Bool.{cases_eq}
use Rattle.shortest_paths.specs.declared.edges.Edge.{Edge}
use Rattle.shortest_paths.specs.declared.edges.Best.{Best}
use Rattle.shortest_paths.specs.Walks.{Joins, IsWithin, HasNoNegativeCycle}
use Rattle.shortest_paths.specs.Search.{found, IsSearched, IsSettled, AreSettled, IsImprovement, room}
use Rattle.shortest_paths.specs.Nearest.{Waiter, waiter, compare_waiters, Waits, AllWait, AllWaitBut, AreSettledBelow, AreWaiters}
use Rattle.shortest_paths.proofs.WalkLaws.{some_same}
use Rattle.shortest_paths.proofs.StepFacts.{AtMost-weaker, NoDearer, no_dearer', not_tail, IsSearched-step}
use Rattle.shortest_paths.proofs.EndFacts.{found_within}
use Rattle.shortest_paths.proofs.FinalFacts.{room_falls}
use Rattle.shortest_paths.proofs.RoundFacts.{found_in_none}

-- a loop is settled, where no cycle costs less than 0
pub loop_settled : (edges : List Edge) (best : List (Option Best)) (e : Edge) → HasNoNegativeCycle edges → Contains edges e → e.head ≡ e.tail → IsSettled best e
loop_settled edges best e none has same b f =
    let cycle = none e.tail (e ∷ []) (has, refl, same) in
    (b, subst (λ x. found best x ≡ Some b) (sym same) f, omega (arith, ints))

-- an element of a list with one more in front
in_more : {X : Type 0} (xs : List X) (y x : X) → Contains xs x → Contains (y ∷ xs) x
in_more xs y x h = let l = h.1 in (suc h.0, omega arith, h.2)

in_front : {X : Type 0} (xs : List X) (y : X) → Contains (y ∷ xs) y
in_front xs y = (0, omega arith, refl)

front_or_more : {X : Type 0} (xs : List X) (y x : X) → Contains (y ∷ xs) x → (y ≡ x) ⊎ Contains xs x
front_or_more xs y x h = by h.0 h.1 h.2
  where
    by : (k : ℕ) → k < length (y ∷ xs) → slice_index_or (y ∷ xs) k x ≡ x → (y ≡ x) ⊎ Contains xs x
    by zero l e = inl e
    by (suc k) l e = inr (k, omega arith, e)

pub joined_waits : {X : Type 0} (heap heap' : List X) (w : X) → IsPermutation (w ∷ heap) heap' → Contains heap' w
joined_waits heap heap' w moved = Contains-permutation (w ∷ heap) heap' w moved (in_front heap w)

-- ---- a point is taken

-- the point that was taken no longer waits
pub taken : (edges : List Edge) (best : List (Option Best)) (numbers : List ℤ) (waiting left : List Waiter) (w : Waiter) → AllWait best numbers waiting edges → IsPermutation waiting (w ∷ left) → AllWaitBut w.0.2 best numbers left edges
taken edges best numbers waiting left w all moved e has ne b f =
    elim (all e has b f) [
      | inl settled ↦ inl settled
      | inr in_heap ↦ elim (front_or_more left w (waiter numbers b.cost e.tail) (Contains-permutation waiting (w ∷ left) (waiter numbers b.cost e.tail) moved in_heap)) [
        | inl same ↦ absurd (ne (sym (ap (λ (x : Waiter). x.0.2) same)))
        | inr more ↦ inr more
      ]
    ]

-- where it waited by a cost that is no longer its best, nothing is lost
pub taken_late : (edges : List Edge) (best : List (Option Best)) (numbers : List ℤ) (waiting left : List Waiter) (w : Waiter) → AllWait best numbers waiting edges → IsPermutation waiting (w ∷ left) →
    ((b : Best) → found best w.0.2 ≡ Some b → b.cost ≢ w.0.1) → AllWait best numbers left edges
taken_late edges best numbers waiting left w all moved late e has b f =
    elim (all e has b f) [
      | inl settled ↦ inl settled
      | inr in_heap ↦ elim (front_or_more left w (waiter numbers b.cost e.tail) (Contains-permutation waiting (w ∷ left) (waiter numbers b.cost e.tail) moved in_heap)) [
        | inl same ↦ absurd (late b (subst (λ x. found best x ≡ Some b) (sym (ap (λ (x : Waiter). x.0.2) same)) f) (sym (ap (λ (x : Waiter). x.0.1) same)))
        | inr more ↦ inr more
      ]
    ]

-- where none waits, each edge is settled
pub settled_where_none_waits : (edges : List Edge) (best : List (Option Best)) (numbers : List ℤ) (waiting : List Waiter) → AllWait best numbers waiting edges → length waiting ≡ 0 → AreSettled best edges
settled_where_none_waits edges best numbers waiting all none e has b f =
    elim (all e has b f) [
      | inl settled ↦ settled
      | inr in_heap ↦ absurd (let l = in_heap.1 in omega arith)
    ]

-- no point waits by less than the first
at_most : (x y : ℤ) → is_lt (int_cmp y x) ≡ false → x ≤ℤ y
at_most x y h = by (int_cmp y x) (int_ranks y x) h
  where
    by : (o : Ordering) → MatchOrdering o (y <ℤ x) (y ≡ x) (x <ℤ y) → is_lt o ≡ false → x ≤ℤ y
    by Less m e = absurd (cc)
    by Equal m e = omega (arith, ints, m)
    by Greater m e = omega (arith, ints, m)

first_decides : (x y : Waiter) → is_lt (compare_waiters x y) ≡ false → is_lt (int_cmp y.0.0 x.0.0) ≡ false
first_decides x y h = by (int_cmp y.0.0 x.0.0) _ h
  where
    by : (a b : Ordering) → is_lt (ordering_then a b) ≡ false → is_lt a ≡ false
    by Less b e = e
    by Equal b e = refl
    by Greater b e = e

pub no_nearer : (w : Waiter) (waiting : List Waiter) → IsUpperBound compare_waiters w waiting → (x : Waiter) → Contains waiting x → w.0.0 ≤ℤ x.0.0
no_nearer w [] h x has = absurd (let l = has.1 in omega arith)
no_nearer w (y ∷ waiting) h x has =
    elim (front_or_more waiting y x has) [
      | inl same ↦ subst (λ (z : Waiter). w.0.0 ≤ℤ z.0.0) same (at_most w.0.0 y.0.0 (first_decides w y h.0))
      | inr more ↦ no_nearer w waiting h.1 x more
    ]

-- each edge from a nearer point is settled
pub settled_below : (edges : List Edge) (best : List (Option Best)) (numbers : List ℤ) (waiting : List Waiter) (w : Waiter) → AllWait best numbers waiting edges → IsUpperBound compare_waiters w waiting →
    AreSettledBelow best numbers w.0.0 edges
settled_below edges best numbers waiting w all first e has b f =
    elim (all e has b f) [
      | inl settled ↦ inl settled
      | inr in_heap ↦ inr (no_nearer w waiting first (waiter numbers b.cost e.tail) in_heap)
    ]

-- ---- an edge gives a cheaper walk

module _ (edges : List Edge) (from : ℕ) (old new : List (Option Best)) (numbers : List ℤ) (k : ℕ) (d : Edge) (none : HasNoNegativeCycle edges) (s : IsSearched edges from old)
    (at : slice_get edges k ≡ Some d) (inside : d.head < length old) (imp : IsImprovement old new k d) where
  pub improved : IsSearched edges from new
  improved = subst (λ x. IsSearched edges from x) (sym imp.written) (IsSearched-step edges from old k d imp.tail none s at imp.improves inside)

  less' : NoDearer old new
  less' = subst (λ x. NoDearer old x) (sym imp.written) (no_dearer' edges from old k d imp.tail none s at imp.improves inside)

  head_not_tail : d.head ≢ d.tail
  head_not_tail = not_tail edges from old k d imp.tail none s at imp.improves inside

  pub at_head : found new d.head ≡ Some (record { cost = imp.tail.cost +ℤ d.cost; last = Some k })
  at_head = subst (λ x. found x d.head ≡ Some (record { cost = imp.tail.cost +ℤ d.cost; last = Some k })) (sym imp.written)
      (get_or-set_same old d.head (Some (record { cost = imp.tail.cost +ℤ d.cost; last = Some k })) None inside)

  elsewhere : (v : ℕ) → v ≢ d.head → found new v ≡ found old v
  elsewhere v ne = subst (λ x. found x v ≡ found old v) (sym imp.written)
      (get_or-set_other old d.head v (Some (record { cost = imp.tail.cost +ℤ d.cost; last = Some k })) None ne)

  pub same_length : length new ≡ length old
  same_length = ap length imp.written ∙ length-set old d.head _

  pub improved_room : length old ≤ 2 ^ 14 → All (Joins (length old)) edges → All (λ e. IsWithin (2 ^ 46) e.cost) edges → room new < room old
  improved_room few joins costs =
      let b : Best = record { cost = imp.tail.cost +ℤ d.cost; last = Some k } in
      let bounds = found_within edges (length old) from new d.head b few joins costs improved inside at_head in
      subst (λ x. room x < room old) (sym imp.written) (room_falls old d.head (record { cost = imp.tail.cost +ℤ d.cost; last = Some k }) inside bounds (λ a f. imp.improves.cheaper a f))

  -- an edge that waited or was settled is so still, where the improved point waits too
  pub waits_kept : (heap heap' : List Waiter) (e : Edge) → ((b : Best) → found new d.head ≡ Some b → IsPermutation (waiter numbers b.cost d.head ∷ heap) heap') → Waits old numbers heap e → Waits new numbers heap' e
  waits_kept heap heap' e joins waits a f =
      let b : Best = record { cost = imp.tail.cost +ℤ d.cost; last = Some k } in
      let moved = joins b at_head in
      elim (cases_eq e.tail d.head) [
        | inl same ↦
            let is = some_same a b (sym f ∙ subst (λ x. found new x ≡ Some b) (sym same) at_head) in
            inr (subst (λ (x : Best). Contains heap' (waiter numbers x.cost e.tail)) (sym is)
            (subst (λ x. Contains heap' (waiter numbers b.cost x)) (sym same) (joined_waits heap heap' (waiter numbers b.cost d.head) moved)))
        | inr ne ↦ elim (waits a (sym (elsewhere e.tail ne) ∙ f)) [
          | inl settled ↦ let q = less' e.head settled.0 settled.1 in inl (AtMost-weaker new e.head settled.0.cost (a.cost +ℤ e.cost) q settled.2)
          | inr in_heap ↦ inr (Contains-permutation (waiter numbers b.cost d.head ∷ heap) heap' (waiter numbers a.cost e.tail) moved (in_more heap (waiter numbers b.cost d.head) (waiter numbers a.cost e.tail) in_heap))
        ]
      ]

  -- the edge that improved its head is settled
  pub improved_settled : IsSettled new d
  improved_settled a f =
      let ne : d.tail ≢ d.head = λ e. head_not_tail (sym e) in
      let is = some_same a imp.tail (sym f ∙ elsewhere d.tail ne ∙ imp.improves.tail_found) in
      let cost = ap (λ (x : Best). x.cost) is in
      (record { cost = imp.tail.cost +ℤ d.cost; last = Some k }, at_head, omega (arith, ints))

-- ---- at first

-- only `from` is found, and it waits
pub waits_first : (edges : List Edge) (numbers : List ℤ) (points from : ℕ) (heap : List Waiter) → from < points → Contains heap (waiter numbers (pos 0) from) →
    AllWait (set (replicate points None) from (Some (record { cost = pos 0; last = None }))) numbers heap edges
waits_first edges numbers points from heap l has e in_edges b f =
    elim (cases_eq e.tail from) [
      | inl same ↦
          let at = get_or-set_same (replicate points None) from (Some (record { cost = pos 0; last = None })) None (rw length-replicate l) in
          let is = some_same (record { cost = pos 0; last = None }) b (sym at ∙ subst (λ x. found (set (replicate points None) from (Some (record { cost = pos 0; last = None }))) x ≡ Some b) same f) in
          inr (subst (λ x. Contains heap (waiter numbers b.cost x)) (sym same) (subst (λ (x : Best). Contains heap (waiter numbers x.cost from)) is has))
      | inr ne ↦ let h = sym (get_or-set_other (replicate points None) from e.tail (Some (record { cost = pos 0; last = None })) None ne ∙ found_in_none points e.tail) ∙ f in absurd (cc)
    ]

pub first_found : (points from : ℕ) (best : List (Option Best)) → from < points → best ≡ replicate points None → found (set best from (Some (record { cost = pos 0; last = None }))) from ≡ Some (record { cost = pos 0; last = None })
first_found points from best l is =
    get_or-set_same best from (Some (record { cost = pos 0; last = None })) None (let len = ap length is ∙ length-replicate points None in omega arith)

pub no_waiters : (points : ℕ) (numbers : List ℤ) (heap : List Waiter) → heap ≡ [] → AreWaiters points numbers heap
no_waiters points numbers heap is = subst (λ x. AreWaiters points numbers x) (sym is) (λ k d l. absurd (omega arith))

-- where none waits, they stand in order
pub no_waiters_in_order : (heap : List Waiter) → heap ≡ [] → IsHeap compare_waiters heap
unfolding IsHeap
no_waiters_in_order heap is = subst (λ x. IsHeap compare_waiters x) (sym is) (λ p k d a b c less. absurd (omega arith))

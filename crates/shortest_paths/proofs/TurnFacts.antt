-- Going over the edges that leave a point.
use Rattle.std.proofs.Common.{◌≡◌, ◌≢◌, ℕ, suc, ◌<◌, ◌≤◌, ℤ, pos, List, length, slice_get, slice_index_or, Option, Some, None, inl, inr, sym, ap, subst, ◌∙◌, arith}
use Rattle.std.specs.List.{Contains}
use Rattle.std.proofs.lemmas.Bool.{cases_eq, cases_lt}
use Rattle.std.proofs.lemmas.Option.{slice_get-get_or, slice_get_within}
use Rattle.shortest_paths.specs.declared.edges.Edge.{Edge}
use Rattle.shortest_paths.specs.declared.edges.Best.{Best}
use Rattle.shortest_paths.specs.Usable.{usable}
use Rattle.shortest_paths.specs.Leaving.{IsLatest}
use Rattle.shortest_paths.specs.Nearest.{Waiter, Waits, AllWait, IsRelaxed, AreWaiters}
use Rattle.shortest_paths.proofs.UsableLaws.{usable_tail}
use Rattle.shortest_paths.proofs.WalkLaws.{some_same}

pub steps_left : Option ℕ → ℕ
steps_left None = 0
steps_left (Some k) = suc k

-- from `bound` on, the edges that leave the point are settled, or it waits
abbrev pub IsDoneFrom : List Edge → List ℤ → List (Option Best) → List Waiter → ℕ → ℕ → Type 0
IsDoneFrom edges numbers best waiting point bound = (j : ℕ) (e : Edge) → bound ≤ j → slice_get edges j ≡ Some e → e.tail ≡ point → Waits best numbers waiting e

-- nothing is done yet, and nothing changed
pub IsRelaxed-none : (edges : List Edge) (numbers : List ℤ) (best : List (Option Best)) (heap : List Waiter) (len : ℕ) → IsRelaxed edges numbers best best heap heap len len
IsRelaxed-none edges numbers best heap len = record {
  kept = λ from s. s;
  falls = omega arith;
  waits = λ e w. w;
  order = λ h. h;
  inside = λ h. h;
}

pub IsRelaxed-then : (edges : List Edge) (numbers : List ℤ) (a b c : List (Option Best)) (heap heap' heap'' : List Waiter) (len len' len'' : ℕ) → length b ≡ length a →
    IsRelaxed edges numbers a b heap heap' len len' → IsRelaxed edges numbers b c heap' heap'' len' len'' → IsRelaxed edges numbers a c heap heap'' len len''
IsRelaxed-then edges numbers a b c heap heap' heap'' len len' len'' same p q = record {
  kept = λ from s. q.kept from (p.kept from s);
  falls = let x = p.falls in let y = q.falls in omega arith;
  waits = λ e w. q.waits e (p.waits e w);
  order = λ h. q.order (p.order h);
  inside = λ h. subst (λ n. AreWaiters n numbers heap'') same (q.inside (subst (λ n. AreWaiters n numbers heap') (sym same) (p.inside h)));
}

module _ (edges : List Edge) (limits : List ℕ) (numbers : List ℤ) (best : List (Option Best)) (waiting : List Waiter) (point : ℕ) where
  done_first : IsDoneFrom (usable edges limits) numbers best waiting point (length edges)
  done_first j e le there tail =
      let q = usable_tail _ edges limits j e there in
      absurd (let l = slice_get_within edges j q.0 q.1 in omega arith)

  pub start_done : IsDoneFrom (usable edges limits) numbers best waiting point (length edges)
  start_done = done_first

  -- one edge more is done
  pub done_next : (bound k : ℕ) → IsLatest edges bound point (Some k) → IsDoneFrom (usable edges limits) numbers best waiting point bound →
      ((e : Edge) → slice_get (usable edges limits) k ≡ Some e → Waits best numbers waiting e) → IsDoneFrom (usable edges limits) numbers best waiting point k
  done_next bound k latest done here j e le there tail =
      elim (cases_eq j k) [
        | inl same ↦ here e (subst (λ x. slice_get (usable edges limits) x ≡ Some e) same there)
        | inr ne ↦ elim (cases_lt j bound) [
          | inl less ↦ let q = usable_tail _ edges limits j e there in absurd (latest.2 j q.0 (omega arith) less q.1 (sym q.2 ∙ tail))
          | inr ge ↦ done j e (omega arith) there tail
        ]
      ]

  -- where no edge is left, all are done
  pub done_all : (bound : ℕ) → IsLatest edges bound point None → IsDoneFrom (usable edges limits) numbers best waiting point bound →
      ((e : Edge) → Contains (usable edges limits) e → e.tail ≢ point → Waits best numbers waiting e) → AllWait best numbers waiting (usable edges limits)
  done_all bound latest done others e has =
      elim (cases_eq e.tail point) [
        | inr ne ↦ others e has ne
        | inl tail ↦
            let at = slice_get-get_or (usable edges limits) has.0 e has.1 ∙ ap Some has.2 in
            elim (cases_lt has.0 bound) [
              | inl less ↦ let q = usable_tail _ edges limits has.0 e at in absurd (latest has.0 q.0 less q.1 (sym q.2 ∙ tail))
              | inr ge ↦ done has.0 e (omega arith) at tail
            ]
      ]

  -- the edge before an edge
  pub latest_before : (bound k : ℕ) (older : List (Option ℕ)) (o : Option ℕ) → IsLatest edges bound point (Some k) → bound ≤ length edges →
      ((j : ℕ) (e : Edge) → slice_get edges j ≡ Some e → (p : Option ℕ) × (slice_get older j ≡ Some p) × IsLatest edges j e.tail p) → slice_get older k ≡ Some o → IsLatest edges k point o
  latest_before bound k older o latest few olders is =
      let within : k < length edges = let l = latest.0 in omega arith in
      let at : slice_get edges k ≡ Some (slice_index_or edges k (record { tail = 0; head = 0; cost = pos 0 })) = slice_get-get_or edges k (record { tail = 0; head = 0; cost = pos 0 }) within in
      let q = olders k (slice_index_or edges k (record { tail = 0; head = 0; cost = pos 0 })) at in
      let tail = latest.1 _ at in
      let read = some_same q.0 o (sym q.1 ∙ is) in
      subst (λ x. IsLatest edges k x o) tail (subst (λ p. IsLatest edges k (slice_index_or edges k (record { tail = 0; head = 0; cost = pos 0 })).tail p) read q.2)

-- the edge before it comes earlier
pub fewer_left : (edges : List Edge) (k v : ℕ) (o : Option ℕ) → IsLatest edges k v o → steps_left o < steps_left (Some k)
unfolding steps_left
fewer_left edges k v None latest = omega arith
fewer_left edges k v (Some j) latest = let l = latest.0 in omega arith

-- Edges with limits, place by place.
use Rattle.std.proofs.Common.{◌≡◌, ℕ, zero, suc, ◌+◌, ◌-◌, ◌<◌, ◌⊎◌, List, [], ◌∷◌, length, Some, inl, inr, refl, sym, ap, subst, arith, slice_get, slice_index, get_or, cond, nat_eq, Bool, true, false}
use Rattle.std.specs.List.{All}
use Rattle.std.proofs.lemmas.Option.{slice_get-get_or, slice_get_within, get_or_from_slice_get}
use Rattle.shortest_paths.specs.declared.edges.Edge.{Edge}
use Rattle.shortest_paths.specs.Usable.{loop_at, limited, usable_after, usable}
use Rattle.shortest_paths.proofs.WalkLaws.{some_same}

-- an edge without a limit
pub usable_free : (n : ℕ) (edges : List Edge) (limits : List ℕ) (k : ℕ) (e : Edge) → k < n → slice_get edges k ≡ Some e → slice_get (usable_after n edges limits) k ≡ Some e
usable_free zero edges limits k e l h = absurd (omega arith)
usable_free (suc n) [] limits k e l h = h
usable_free (suc n) (d ∷ edges) limits zero e l h = h
usable_free (suc n) (d ∷ edges) limits (suc k) e l h = usable_free n edges limits k e (omega arith) h

-- an edge with a limit
pub usable_limited : (n : ℕ) (edges : List Edge) (limits : List ℕ) (k j : ℕ) (e : Edge) → k ≡ n + j → j < length limits → slice_get edges k ≡ Some e →
    slice_get (usable_after n edges limits) k ≡ Some (limited (slice_index limits j) e)
usable_limited n [] limits k j e is l h = absurd (cc)
usable_limited zero (d ∷ edges) [] k j e is l h = absurd (omega arith)
usable_limited zero (d ∷ edges) (limit ∷ limits) zero zero e is l h = ap (λ x. Some (limited limit x)) (some_same d e h)
usable_limited zero (d ∷ edges) (limit ∷ limits) zero (suc j) e is l h = absurd (omega arith)
usable_limited zero (d ∷ edges) (limit ∷ limits) (suc k) zero e is l h = absurd (omega arith)
usable_limited zero (d ∷ edges) (limit ∷ limits) (suc k) (suc j) e is l h = usable_limited zero edges limits k j e (omega arith) (omega arith) h
usable_limited (suc n) (d ∷ edges) limits zero j e is l h = absurd (omega arith)
usable_limited (suc n) (d ∷ edges) limits (suc k) j e is l h = usable_limited n edges limits k j e (omega arith) l h

-- what is at a place is the edge that was there, or a loop in its place
pub usable_at : (n : ℕ) (edges : List Edge) (limits : List ℕ) (k : ℕ) (d : Edge) → slice_get (usable_after n edges limits) k ≡ Some d →
    (e : Edge) × (slice_get edges k ≡ Some e) × ((d ≡ e) ⊎ (d ≡ loop_at e))
usable_at n [] limits k d h = absurd (cc)
usable_at (suc n) (e ∷ edges) limits zero d h = (e, refl, inl (some_same d e (sym h)))
usable_at (suc n) (e ∷ edges) limits (suc k) d h = usable_at n edges limits k d h
usable_at zero (e ∷ edges) [] k d h = (d, h, inl refl)
usable_at zero (e ∷ edges) (limit ∷ limits) zero d h = (e, refl, by (nat_eq limit 0) (sym (some_same (limited limit e) d h)))
  where
    by : (b : Bool) → d ≡ cond b (loop_at e) e → (d ≡ e) ⊎ (d ≡ loop_at e)
    by true is = inr is
    by false is = inl is
usable_at zero (e ∷ edges) (limit ∷ limits) (suc k) d h = usable_at zero edges limits k d h

-- and has the same tail
pub usable_tail : (n : ℕ) (edges : List Edge) (limits : List ℕ) (k : ℕ) (d : Edge) → slice_get (usable_after n edges limits) k ≡ Some d → (e : Edge) × (slice_get edges k ≡ Some e) × (d.tail ≡ e.tail)
usable_tail n edges limits k d h =
    let q = usable_at n edges limits k d h in
    (q.0, q.1, elim q.2 [ inl same ↦ ap (λ (x : Edge). x.tail) same | inr loop ↦ ap (λ (x : Edge). x.tail) loop ])

pub usable_length : (n : ℕ) (edges : List Edge) (limits : List ℕ) → length (usable_after n edges limits) ≡ length edges
usable_length n [] limits = refl
usable_length (suc n) (e ∷ edges) limits = ap suc (usable_length n edges limits)
usable_length zero (e ∷ edges) [] = refl
usable_length zero (e ∷ edges) (limit ∷ limits) = ap suc (usable_length zero edges limits)

pub usable_all : (P : Edge → Type 0) (n : ℕ) (edges : List Edge) (limits : List ℕ) → ((e : Edge) → P e → P (loop_at e)) → All P edges → All P (usable_after n edges limits)
usable_all P n edges limits loops all k d l =
    let there = slice_get-get_or (usable_after n edges limits) k d l in
    let q = usable_at n edges limits k (get_or (usable_after n edges limits) k d) there in
    let within = slice_get_within edges k q.0 q.1 in
    let one = subst P (get_or_from_slice_get edges k q.0 q.0 q.1) (all k q.0 within) in
    elim q.2 [ inl same ↦ subst P (sym same) one | inr loop ↦ subst P (sym loop) (loops q.0 one) ]

-- without limits the edges are themselves
pub usable_none : (n : ℕ) (edges : List Edge) → usable_after n edges [] ≡ edges
usable_none n [] = refl
usable_none (suc n) (e ∷ edges) = ap (λ x. e ∷ x) (usable_none n edges)
usable_none zero (e ∷ edges) = refl

pub usable_unlimited : (edges : List Edge) → usable edges [] ≡ edges
usable_unlimited edges = usable_none (length edges - 0) edges

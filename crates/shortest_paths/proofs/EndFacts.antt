-- Bounds during a search, and what holds at its end.
use Rattle.std.proofs.Common.{◌≡◌, ◌≢◌, ℕ, zero, suc, ◌<◌, ◌≤◌, ◌^◌, ◌*◌, ◌+ℤ◌, List, [], ◌∷◌, length, Option, Some, refl, sym, ap, subst, arith}
use Rattle.std.specs.List.{All, Contains}
use Rattle.std.proofs.lemmas.Int.{ints}
use Rattle.std.proofs.lemmas.List.Elements.{All-contains}
use Rattle.shortest_paths.proofs.PigeonholeFacts.{pigeonhole}
use Rattle.shortest_paths.specs.declared.edges.Edge.{Edge}
use Rattle.shortest_paths.specs.declared.edges.Best.{Best}
use Rattle.shortest_paths.specs.Walks.{IsWalk, cost_of, Joins, IsWithin}
use Rattle.shortest_paths.specs.Search.{found, AtMost, Misses, Traced, IsSearched, AreSettled}
use Rattle.shortest_paths.proofs.StepFacts.{AtMost-weaker}

-- ---- a walk that meets no point twice has fewer edges than there are points

-- a walk from x to v, written from its last edge back to its first, meets no point twice
abbrev pub IsSimple : List Edge → ℕ → List Edge → ℕ → Type 0
IsSimple edges x [] v = v ≡ x
IsSimple edges x (e ∷ back) v = Contains edges e × (e.head ≡ v) × Misses v back e.tail × IsSimple edges x back e.tail

-- the point of a walk, written from its last edge back, at each place
stop_at : List Edge → ℕ → ℕ → ℕ
stop_at [] u i = u
stop_at (e ∷ back) u zero = u
stop_at (e ∷ back) u (suc i) = stop_at back e.tail i

stop_below : (edges : List Edge) (points from : ℕ) (back : List Edge) (u i : ℕ) → All (Joins points) edges → u < points → IsSimple edges from back u → stop_at back u i < points
unfolding stop_at
stop_below edges points from [] u i joins l h = l
stop_below edges points from (e ∷ back) u zero joins l h = l
stop_below edges points from (e ∷ back) u (suc i) joins l h =
    stop_below edges points from back e.tail i joins ((All-contains (Joins points) edges e joins h.0).0) h.3

missed_stop : (x : ℕ) (back : List Edge) (u i : ℕ) → Misses x back u → x ≢ stop_at back u i
unfolding stop_at
missed_stop x [] u i m = m
missed_stop x (e ∷ back) u zero m = m.0
missed_stop x (e ∷ back) u (suc i) m = missed_stop x back e.tail i m.1

stops_apart : (edges : List Edge) (from : ℕ) (back : List Edge) (u i j : ℕ) → IsSimple edges from back u → i < suc (length back) → j < suc (length back) → stop_at back u i ≡ stop_at back u j → i ≡ j
unfolding stop_at
stops_apart edges from [] u i j h p q e = omega arith
stops_apart edges from (d ∷ back) u zero zero h p q e = refl
stops_apart edges from (d ∷ back) u zero (suc j) h p q e = absurd (missed_stop u back d.tail j h.2 e)
stops_apart edges from (d ∷ back) u (suc i) zero h p q e = absurd (missed_stop u back d.tail i h.2 (sym e))
stops_apart edges from (d ∷ back) u (suc i) (suc j) h p q e = ap suc (stops_apart edges from back d.tail i j h.3 (omega arith) (omega arith) e)

pub simple_short : (edges : List Edge) (points from : ℕ) (back : List Edge) (u : ℕ) → All (Joins points) edges → u < points → IsSimple edges from back u → length back < points
simple_short edges points from back u joins l h =
    pigeonhole (suc (length back)) points (λ i. stop_at back u i) (λ i p. stop_below edges points from back u i joins l h) (λ i j p q e. stops_apart edges from back u i j h p q e)

simple_from_traced : (edges : List Edge) (from : ℕ) (best : List (Option Best)) (back : List Edge) (u : ℕ) → Traced edges from best back u → IsSimple edges from back u
simple_from_traced edges from best [] u h = h
simple_from_traced edges from best (e ∷ back) u h = (h.0, h.1, h.2, simple_from_traced edges from best back e.tail h.4)

-- ---- so its cost is bounded

pub cost_within : (edges : List Edge) (from : ℕ) (best : List (Option Best)) (back : List Edge) (u : ℕ) → All (λ e. IsWithin (2 ^ 46) e.cost) edges → Traced edges from best back u → IsWithin (2 ^ 46 * length back) (cost_of back)
cost_within edges from best [] u costs h = (omega (arith, ints), omega (arith, ints))
cost_within edges from best (e ∷ back) u costs h =
    let ih = cost_within edges from best back e.tail costs h.4 in
    let one = All-contains (λ (d : Edge). IsWithin (2 ^ 46) d.cost) edges e costs h.0 in
    let low = ih.0 in
    let high = ih.1 in
    let one_low = one.0 in
    let one_high = one.1 in
    (omega (arith, ints), omega (arith, ints))

pub found_within : (edges : List Edge) (points from : ℕ) (best : List (Option Best)) (v : ℕ) (b : Best) → points ≤ 2 ^ 14 → All (Joins points) edges → All (λ e. IsWithin (2 ^ 46) e.cost) edges → IsSearched edges from best → v < points → found best v ≡ Some b → IsWithin (2 ^ 60) b.cost
found_within edges points from best v b few joins costs s l f =
    let w = s.walks v b f in
    let short = simple_short edges points from w.0 v joins l (simple_from_traced edges from best w.0 v w.1) in
    let bound = cost_within edges from best w.0 v costs w.1 in
    let low = bound.0 in
    let high = bound.1 in
    let same = w.2 in
    (omega (arith, ints), omega (arith, ints))

-- ---- where no edge improves, no walk is cheaper

pub settled_walk : (edges : List Edge) (best : List (Option Best)) (u v : ℕ) (walk : List Edge) (b : Best) → AreSettled best edges → IsWalk edges u walk v → found best u ≡ Some b → AtMost best v (b.cost +ℤ cost_of walk)
settled_walk edges best u v [] b settled h f = (b, subst (λ x. found best x ≡ Some b) h f, omega (arith, ints))
settled_walk edges best u v (e ∷ walk) b settled h f =
    let next = settled e h.0 b (subst (λ x. found best x ≡ Some b) (sym h.1) f) in
    let rest = settled_walk edges best e.head v walk next.0 settled h.2 next.1 in
    let le = next.2 in
    AtMost-weaker best v (next.0.cost +ℤ cost_of walk) (b.cost +ℤ (e.cost +ℤ cost_of walk)) rest (omega (arith, ints))

-- How a caller shows that a network meets what the solver asks for.
use Rattle.std.proofs.Common.{◌≡◌, ℕ, zero, suc, ◌<◌, ℤ, ◌+ℤ◌, ◌-ℤ◌, ◌≤ℤ◌, List, [], ◌∷◌, ◌++◌, map, refl, ap, ◌∙◌, arith, slice_get, Some}
use Rattle.std.proofs.lemmas.Int.{ints}
use Rattle.std.proofs.lemmas.Option.{slice_get-get_or}
use Rattle.min_cost_flow.specs.declared.network.Arc.{Arc}
use Rattle.min_cost_flow.specs.Flow.{HasNoPositiveCycle, length_of}
use Rattle.shortest_paths.specs.declared.edges.Edge.{Edge}
use Rattle.shortest_paths.specs.Walks.{IsWalk, Reaches, cost_of}
use Rattle.shortest_paths.proofs.WalkLaws.{some_same, IsWalk-append}

arc_at : (xs : List Arc) (e : Edge) (k : ℕ) → slice_get (map length_of xs) k ≡ Some e → (a : Arc) × (slice_get xs k ≡ Some a) × (length_of a ≡ e)
arc_at [] e k h = absurd (cc)
arc_at (a ∷ xs) e zero h = (a, refl, some_same (length_of a) e h)
arc_at (a ∷ xs) e (suc k) h = arc_at xs e k h

rises_along : (arcs : List Arc) (p : ℕ → ℤ) → ((k : ℕ) (a : Arc) → slice_get arcs k ≡ Some a → a.least ≤ℤ (p a.head -ℤ p a.tail)) →
    (walk : List Edge) (u v : ℕ) → IsWalk (map length_of arcs) u walk v → (cost_of walk +ℤ p u) ≤ℤ p v
rises_along arcs p holds [] u v h = let e = ap p h in omega (arith, ints)
rises_along arcs p holds (e ∷ walk) u v h =
    let rest = rises_along arcs p holds walk e.head v h.2 in
    let has = h.0 in
    let a = arc_at arcs e has.0 (slice_get-get_or (map length_of arcs) has.0 e has.1 ∙ ap Some has.2) in
    let one = holds has.0 a.0 a.1 in
    let tail = ap (λ (x : Edge). p x.tail) a.2 in
    let head = ap (λ (x : Edge). p x.head) a.2 in
    let cost = ap (λ (x : Edge). x.cost) a.2 in
    let from = ap p h.1 in
    omega (arith, ints)

-- potentials that keep the least differences rule out cycles of positive total
pub no_positive_cycle_from_potentials : (arcs : List Arc) (p : ℕ → ℤ) → ((k : ℕ) (a : Arc) → slice_get arcs k ≡ Some a → a.least ≤ℤ (p a.head -ℤ p a.tail)) → HasNoPositiveCycle arcs
no_positive_cycle_from_potentials arcs p holds v walk h = let r = rises_along arcs p holds walk v v h in omega (arith, ints)

-- points that all reach root, and that root all reaches, reach one another
pub connected_by_root : (points : ℕ) (edges : List Edge) → ((v : ℕ) → v < points → Reaches edges v 0) → ((v : ℕ) → v < points → Reaches edges 0 v) →
    (u v : ℕ) → u < points → v < points → Reaches edges u v
connected_by_root points edges back forth u v l m =
    let a = back u l in
    let b = forth v m in
    (a.0 ++ b.0, IsWalk-append edges u 0 v a.0 b.0 a.1 b.1)

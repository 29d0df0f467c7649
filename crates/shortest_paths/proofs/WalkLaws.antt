-- Walks in a graph of edges: their costs, their parts, and walks joined.
use Rattle.std.proofs.Common.{◌≡◌, ℕ, ℤ, pos, ◌+ℤ◌, ◌≤ℤ◌, List, [], ◌∷◌, ◌++◌, Option, Some, refl, sym, ap, subst, arith, slice_get}
use Rattle.std.specs.List.{Contains}
use Rattle.std.proofs.lemmas.Int.{ints}
use Rattle.std.proofs.lemmas.Option.{get_or_from_slice_get, slice_get_within}
use Rattle.std.proofs.lemmas.List.Elements.{Contains-get_or}
use Rattle.shortest_paths.specs.declared.edges.Edge.{Edge}
use Rattle.shortest_paths.specs.declared.edges.Best.{Best}
use Rattle.shortest_paths.specs.Walks.{IsWalk, cost_of, HasNoNegativeCycle}
use Rattle.shortest_paths.specs.Search.{Traced}

pub some_same : {X : Type 0} (a b : X) → Some a ≡ Some b → a ≡ b
some_same a b e = cc

pub edge_at : (edges : List Edge) (k : ℕ) (e : Edge) → slice_get edges k ≡ Some e → Contains edges e
edge_at edges k e at = subst (λ x. Contains edges x) (get_or_from_slice_get edges k e e at) (Contains-get_or edges k e (slice_get_within edges k e at))

-- ---- walks end to end

pub IsWalk-append : (edges : List Edge) (u v w : ℕ) (p q : List Edge) → IsWalk edges u p v → IsWalk edges v q w → IsWalk edges u (p ++ q) w
IsWalk-append edges u v w [] q a b = subst (λ x. IsWalk edges x q w) (sym a) b
IsWalk-append edges u v w (e ∷ p) q a b = (a.0, a.1, IsWalk-append edges e.head v w p q a.2 b)

pub cost_of-append : (p q : List Edge) → cost_of (p ++ q) ≡ cost_of p +ℤ cost_of q
cost_of-append [] q = omega (arith, ints)
cost_of-append (e ∷ p) q = let ih = cost_of-append p q in omega (arith, ints)

-- a walk from x to v, written from its last edge back to its first
abbrev pub IsBack : List Edge → ℕ → List Edge → ℕ → Type 0
IsBack edges x [] v = v ≡ x
IsBack edges x (e ∷ back) v = Contains edges e × (e.head ≡ v) × IsBack edges x back e.tail

pub walk_from_back : (edges : List Edge) (x v : ℕ) (back : List Edge) → IsBack edges x back v → (walk : List Edge) × IsWalk edges x walk v × (cost_of walk ≡ cost_of back)
walk_from_back edges x v [] h = ([], sym h, refl)
walk_from_back edges x v (e ∷ back) h =
    let r = walk_from_back edges x e.tail back h.2 in
    let one : IsWalk edges e.tail (e ∷ []) v = (h.0, refl, h.1) in
    let sum = cost_of-append r.0 (e ∷ []) in
    let same = r.2 in
    (r.0 ++ e ∷ [], IsWalk-append edges x e.tail v r.0 (e ∷ []) r.1 one, omega (arith, ints))

pub Back-cycle : (edges : List Edge) (v : ℕ) (back : List Edge) → HasNoNegativeCycle edges → IsBack edges v back v → pos 0 ≤ℤ cost_of back
Back-cycle edges v back none h =
    let r = walk_from_back edges v v back h in
    rw r.2 at (none v r.0 r.1)

pub back_from_traced : (edges : List Edge) (from v : ℕ) (best : List (Option Best)) (back : List Edge) → Traced edges from best back v → IsBack edges from back v
back_from_traced edges from v best [] h = h
back_from_traced edges from v best (e ∷ back) h = (h.0, h.1, back_from_traced edges from e.tail best back h.4)

-- ---- potentials: numbers that no edge exceeds

pub walk_from_potentials : (edges : List Edge) (number : ℕ → ℤ) (u v : ℕ) (walk : List Edge) → ((e : Edge) → Contains edges e → number e.head ≤ℤ (number e.tail +ℤ e.cost)) → IsWalk edges u walk v → number v ≤ℤ (number u +ℤ cost_of walk)
walk_from_potentials edges number u v [] holds h = let same = ap number h in omega (arith, ints)
walk_from_potentials edges number u v (e ∷ walk) holds h =
    let one = holds e h.0 in
    let rest = walk_from_potentials edges number e.head v walk holds h.2 in
    let same = ap number h.1 in
    omega (arith, ints)

pub no_cycle_from_potentials : (edges : List Edge) (number : ℕ → ℤ) → ((e : Edge) → Contains edges e → number e.head ≤ℤ (number e.tail +ℤ e.cost)) → HasNoNegativeCycle edges
no_cycle_from_potentials edges number holds v walk h = let le = walk_from_potentials edges number v v walk holds h in omega (arith, ints)

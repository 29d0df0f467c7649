-- Each walk can be made so short that it has fewer edges than there are points.
use Rattle.std.proofs.Common.{◌≡◌, ℕ, ◌*◌, ◌<◌, ◌≤◌, ◌^◌, ◌⊎◌, ℤ, pos, ◌+ℤ◌, ◌≤ℤ◌, List, [], ◌∷◌, length, inl, inr, refl, sym, subst, ◌∙◌, arith}
use Rattle.std.specs.List.{All}
use Rattle.std.proofs.lemmas.Int.{ints}
use Rattle.std.proofs.lemmas.Bool.{cases_eq}
use Rattle.std.proofs.lemmas.List.Elements.{All-contains}
use Rattle.shortest_paths.specs.declared.edges.Edge.{Edge}
use Rattle.shortest_paths.specs.Walks.{IsWalk, Joins, IsWithin, Reaches, cost_of, number_of}
use Rattle.shortest_paths.specs.Search.{Misses}
use Rattle.shortest_paths.specs.Nearest.{Permits}
use Rattle.shortest_paths.proofs.EndFacts.{IsSimple, simple_short}
use Rattle.shortest_paths.proofs.WalkLaws.{IsBack, walk_from_back, walk_from_potentials}

-- a walk of which v is a point, or that misses v
cut_at : (edges : List Edge) (x v : ℕ) (back : List Edge) (u : ℕ) → IsSimple edges x back u → Misses v back u ⊎ ((s : List Edge) × IsSimple edges x s v)
cut_at edges x v [] u h =
    elim (cases_eq v u) [
      | inl same ↦ inr ([], same ∙ h)
      | inr ne ↦ inl ne
    ]
cut_at edges x v (e ∷ back) u h =
    elim (cases_eq v u) [
      | inl same ↦ inr (e ∷ back, subst (λ y. IsSimple edges x (e ∷ back) y) (sym same) h)
      | inr ne ↦ elim (cut_at edges x v back e.tail h.3) [
        | inl missed ↦ inl (ne, missed)
        | inr found ↦ inr found
      ]
    ]

simplify : (edges : List Edge) (x : ℕ) (back : List Edge) (v : ℕ) → IsBack edges x back v → (s : List Edge) × IsSimple edges x s v
simplify edges x [] v h = ([], h)
simplify edges x (e ∷ back) v h =
    let rest = simplify edges x back e.tail h.2 in
    elim (cut_at edges x v rest.0 e.tail rest.1) [
      | inl missed ↦ (e ∷ rest.0, (h.0, h.1, missed, rest.1))
      | inr found ↦ found
    ]

back_from_walk : (edges : List Edge) (x : ℕ) (walk : List Edge) (u v : ℕ) (back : List Edge) → IsWalk edges u walk v → IsBack edges x back u → (b : List Edge) × IsBack edges x b v
back_from_walk edges x [] u v back h b = (back, subst (λ y. IsBack edges x back y) h b)
back_from_walk edges x (e ∷ walk) u v back h b = back_from_walk edges x walk e.head v (e ∷ back) h.2 (h.0, refl, subst (λ y. IsBack edges x back y) (sym h.1) b)

back_from_simple : (edges : List Edge) (x : ℕ) (back : List Edge) (v : ℕ) → IsSimple edges x back v → IsBack edges x back v
back_from_simple edges x [] v h = h
back_from_simple edges x (e ∷ back) v h = (h.0, h.1, back_from_simple edges x back e.tail h.3)

back_within : (edges : List Edge) (x : ℕ) (back : List Edge) (u : ℕ) → All (λ e. IsWithin (2 ^ 46) e.cost) edges → IsBack edges x back u → IsWithin (2 ^ 46 * length back) (cost_of back)
back_within edges x [] u costs h = (omega (arith, ints), omega (arith, ints))
back_within edges x (e ∷ back) u costs h =
    let ih = back_within edges x back e.tail costs h.2 in
    let one = All-contains (λ (d : Edge). IsWithin (2 ^ 46) d.cost) edges e costs h.0 in
    let low = ih.0 in
    let high = ih.1 in
    let one_low = one.0 in
    let one_high = one.1 in
    (omega (arith, ints), omega (arith, ints))

-- where v is reached from u, its number exceeds that of u by no more than a short walk costs
number_above : (edges : List Edge) (points u v : ℕ) (numbers : List ℤ) → points ≤ 2 ^ 14 → All (Joins points) edges → All (λ e. IsWithin (2 ^ 46) e.cost) edges → v < points →
    Permits edges numbers → Reaches edges u v → number_of numbers v ≤ℤ (number_of numbers u +ℤ pos (2 ^ 60))
number_above edges points u v numbers few joins costs l permits reached =
    let b = back_from_walk edges u reached.0 u v [] reached.1 refl in
    let s = simplify edges u b.0 v b.1 in
    let short = simple_short edges points u s.0 v joins l s.1 in
    let back = back_from_simple edges u s.0 v s.1 in
    let bound = back_within edges u s.0 v costs back in
    let w = walk_from_back edges u v s.0 back in
    let le = walk_from_potentials edges (number_of numbers) u v w.0 permits w.1 in
    let same = w.2 in
    let high = bound.1 in
    omega (arith, ints)

-- so the numbers of points that reach one another are small, if one of them is 0
pub number_within : (edges : List Edge) (points u v : ℕ) (numbers : List ℤ) → points ≤ 2 ^ 14 → All (Joins points) edges → All (λ e. IsWithin (2 ^ 46) e.cost) edges → u < points → v < points → number_of numbers u ≡ pos 0 →
    Permits edges numbers → Reaches edges u v → Reaches edges v u → IsWithin (2 ^ 60) (number_of numbers v)
number_within edges points u v numbers few joins costs lu lv is_zero permits forth back =
    let high = number_above edges points u v numbers few joins costs lv permits forth in
    let low = number_above edges points v u numbers few joins costs lu permits back in
    (omega (arith, ints), omega (arith, ints))

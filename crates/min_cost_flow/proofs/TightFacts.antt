-- The residual network of a flow that has potentials: it meets what a search asks for, and the search gives
-- potentials again.
use Rattle.std.proofs.Common.{◌≡◌, ◌≢◌, ℕ, zero, suc, ◌+◌, ◌<◌, ◌≤◌, ◌^◌, ℤ, pos, ◌+ℤ◌, ◌≤ℤ◌, List, [], ◌∷◌, length, map, Option, Some, None, inl, inr, refl, sym, ap, subst, ◌∙◌, arith, slice_get}
use Rattle.std.specs.List.{Contains, All}
use Rattle.std.proofs.lemmas.Int.{ints}
use Rattle.std.proofs.lemmas.Bool.{cases_eq, cases_lt}
use Rattle.std.proofs.lemmas.Option.{slice_get_within, get_or_from_slice_get, slice_get-get_or}
use Rattle.std.proofs.lemmas.List.Elements.{Contains-get_or, All-contains}
use Rattle.min_cost_flow.specs.declared.network.Arc.{Arc}
use Rattle.min_cost_flow.specs.declared.network.Network.{Network}
use Rattle.min_cost_flow.specs.declared.network.Step.{Step}
use Rattle.min_cost_flow.specs.declared.residual.Residual.{Residual}
use Rattle.min_cost_flow.specs.Flow.{IsTight, length_of}
use Rattle.min_cost_flow.specs.Residual.{forward, backward, IsMove, more, fewer, IsResidual, IsTreeTight}
use Rattle.min_cost_flow.specs.Search.{IsSearchOf, potential_of}
use Rattle.min_cost_flow.proofs.ResidualFacts.{forward_in, backward_in, move_at, residual_all}
use Rattle.min_cost_flow.proofs.SendFacts.{climb_unique}
use Rattle.shortest_paths.specs.declared.edges.Edge.{Edge}
use Rattle.shortest_paths.specs.declared.heap.Searcher.{Searcher}
use Rattle.shortest_paths.specs.Walks.{IsWalk, Joins, IsWithin, Reaches, number_of, EndsLeast, ClimbsIn}
use Rattle.shortest_paths.specs.Usable.{usable}
use Rattle.shortest_paths.specs.Nearest.{Permits, AreSmall, IsLinked}
use Rattle.shortest_paths.proofs.UsableLaws.{usable_all}
use Rattle.shortest_paths.proofs.ShortLaws.{number_within}
use Rattle.shortest_paths.proofs.WalkLaws.{some_same, edge_at}

number_beyond : (numbers : List ℤ) (v : ℕ) → length numbers ≤ v → number_of numbers v ≡ pos 0
number_beyond [] v l = refl
number_beyond (x ∷ numbers) zero l = absurd (omega arith)
number_beyond (x ∷ numbers) (suc v) l = number_beyond numbers v (omega arith)

-- an edge of a list that has it, at its place
at_place : {X : Type 0} (xs : List X) (x : X) → Contains xs x → (k : ℕ) × (slice_get xs k ≡ Some x)
at_place xs x h = (h.0, slice_get-get_or xs h.0 x h.1 ∙ ap Some h.2)

contains_arc : (arcs : List Arc) (k : ℕ) (a : Arc) → slice_get arcs k ≡ Some a → Contains arcs a
contains_arc arcs k a h = subst (λ x. Contains arcs x) (get_or_from_slice_get arcs k a a h) (Contains-get_or arcs k a (slice_get_within arcs k a h))

module _ (arcs : List Arc) (flow : List ℕ) (edges : List Edge) (steps : List Step) (r : IsResidual arcs edges steps) (each : length flow ≡ length arcs) where
  -- tight potentials are numbers for a search
  pub permits_from_tight : (numbers : List ℤ) → IsTight arcs flow (potential_of numbers) → Permits (usable edges flow) numbers
  permits_from_tight numbers t e has =
      let k = at_place (usable edges flow) e has in
      elim (move_at arcs flow edges steps r each k.0 e k.1) [
        | inl m ↦ by e m.0 m.3
        | inr loop ↦ let head = ap (number_of numbers) loop.0 in let cost = loop.1 in omega (arith, ints)
      ]
    where
      by : (d : Edge) (s : Step) → IsMove arcs flow d s → number_of numbers d.head ≤ℤ (number_of numbers d.tail +ℤ d.cost)
      by d s (more j a h) = let q = t.rises j a h in omega (arith, ints)
      by d s (fewer j a h some) = let q = t.no_more j a h some in omega (arith, ints)

  -- and the numbers of a search are tight potentials
  pub tight_from_permits : (numbers : List ℤ) → Permits (usable edges flow) numbers → IsTight arcs flow (potential_of numbers)
  tight_from_permits numbers permits = record {
    rises = λ k a h. let q = permits (forward a) (edge_at (usable edges flow) k (forward a) (forward_in arcs flow edges steps r each k a h)) in omega (arith, ints);
    no_more = λ k a h some. let q = permits (backward a) (edge_at (usable edges flow) (length arcs + k) (backward a) (backward_in arcs flow edges steps r each k a h some)) in omega (arith, ints);
  }

  pub residual_joins : (points : ℕ) → All (λ (a : Arc). (a.tail < points) × (a.head < points)) arcs → All (Joins points) edges
  residual_joins points ends = residual_all arcs flow edges steps r each (Joins points)
      (λ k a h. let q = All-contains (λ (a : Arc). (a.tail < points) × (a.head < points)) arcs a ends (contains_arc arcs k a h) in ((q.0, q.1), (q.1, q.0)))

  pub residual_costs : All (λ (a : Arc). IsWithin (2 ^ 30) a.least) arcs → All (λ (e : Edge). IsWithin (2 ^ 46) e.cost) edges
  residual_costs leasts = residual_all arcs flow edges steps r each (λ (e : Edge). IsWithin (2 ^ 46) e.cost) (λ k a h.
      let q = All-contains (λ (a : Arc). IsWithin (2 ^ 30) a.least) arcs a leasts (contains_arc arcs k a h) in
      let low = q.0 in let high = q.1 in
      ((omega (arith, ints), omega (arith, ints)), (omega (arith, ints), omega (arith, ints))))

  -- each walk over the arcs is one over the usable edges
  pub residual_reached : (u v : ℕ) → Reaches (map length_of arcs) u v → Reaches (usable edges flow) u v
  residual_reached u v w = walk w.0 u v w.1
    where
      arc_of : (xs : List Arc) (e : Edge) (k : ℕ) → slice_get (map length_of xs) k ≡ Some e → (a : Arc) × (slice_get xs k ≡ Some a) × (e.tail ≡ a.tail) × (e.head ≡ a.head)
      arc_of [] e k h = absurd (cc)
      arc_of (a ∷ xs) e zero h = let same : length_of a ≡ e = some_same (length_of a) e h in (a, refl, sym (ap (λ (x : Edge). x.tail) same), sym (ap (λ (x : Edge). x.head) same))
      arc_of (a ∷ xs) e (suc k) h = arc_of xs e k h

      walk : (w : List Edge) (u v : ℕ) → IsWalk (map length_of arcs) u w v → Reaches (usable edges flow) u v
      walk [] u v h = ([], h)
      walk (e ∷ w) u v h =
          let rest = walk w e.head v h.2 in
          let k = at_place (map length_of arcs) e h.0 in
          let a = arc_of arcs e k.0 k.1 in
          (forward a.0 ∷ rest.0, (edge_at (usable edges flow) k.0 (forward a.0) (forward_in arcs flow edges steps r each k.0 a.0 a.1), sym a.2 ∙ h.1, subst (λ x. IsWalk (usable edges flow) x rest.0 v) a.3 rest.1))

  -- tight potentials that are 0 at some point are small
  pub small_from_tight : (points zero_at : ℕ) (numbers : List ℤ) → points ≤ 2 ^ 14 → All (λ (a : Arc). (a.tail < points) × (a.head < points)) arcs → All (λ (a : Arc). IsWithin (2 ^ 30) a.least) arcs →
      length numbers ≡ points → zero_at < points → number_of numbers zero_at ≡ pos 0 → IsTight arcs flow (potential_of numbers) →
      ((u v : ℕ) → u < points → v < points → Reaches (map length_of arcs) u v) → AreSmall numbers
  small_from_tight points zero_at numbers few ends leasts len inside is_zero t connected v =
      elim (cases_lt v points) [
        | inl l ↦ number_within (usable edges flow) points zero_at v numbers few
            (usable_all (Joins points) _ edges flow (λ e j. (j.0, j.0)) (residual_joins points ends))
            (usable_all (λ (e : Edge). IsWithin (2 ^ 46) e.cost) _ edges flow (λ e w. (omega (arith, ints), omega (arith, ints))) (residual_costs leasts))
            inside l is_zero (permits_from_tight numbers t) (residual_reached zero_at v (connected zero_at v inside l)) (residual_reached v zero_at (connected v zero_at l inside))
        | inr ge ↦ let z = number_beyond numbers v (omega arith) in (omega (arith, ints), omega (arith, ints))
      ]

  -- ---- the tree of a search

  module _ (points from : ℕ) (numbers : List ℤ) (last : List (Option ℕ)) (root : slice_get last from ≡ Some None)
      (ends : (v k : ℕ) → slice_get last v ≡ Some (Some k) → EndsLeast (usable edges flow) numbers v k)
      (tree : (v k : ℕ) → slice_get last v ≡ Some (Some k) → (n : ℕ) × (n < points) × ClimbsIn (usable edges flow) last from n v) where
    -- no edge of the tree leads nowhere
    tree_move : (v k : ℕ) → (named : slice_get last v ≡ Some (Some k)) → (s : Step) × (slice_get steps k ≡ Some s) × (slice_get edges k ≡ Some (ends v k named).edge) × IsMove arcs flow (ends v k named).edge s
    tree_move v k named =
        let q = ends v k named in
        elim (move_at arcs flow edges steps r each k q.edge q.at) [
          | inl m ↦ m
          | inr loop ↦
              let t = tree v k named in
              let tail_is : q.edge.tail ≡ v = sym loop.0 ∙ q.arrives in
              let on : ClimbsIn (usable edges flow) last from (suc t.0) v = (k, q.edge, named, q.at, subst (λ x. ClimbsIn (usable edges flow) last from t.0 x) (sym tail_is) t.2) in
              let same = climb_unique (usable edges flow) last from t.0 (suc t.0) v root t.2 on in
              absurd (omega arith)
        ]

    pub climb_plain : (n v : ℕ) → ClimbsIn (usable edges flow) last from n v → ClimbsIn edges last from n v
    climb_plain zero v c = c
    climb_plain (suc n) v c =
        let m = tree_move v c.0 c.2 in
        let q = ends v c.0 c.2 in
        let is = some_same q.edge c.1 (sym q.at ∙ c.3) in
        (c.0, c.1, c.2, m.2 ∙ ap Some is, climb_plain n c.1.tail c.4)

    pub tree_tight' : IsTreeTight edges last (potential_of numbers)
    tree_tight' v k e named at =
        let m = tree_move v k named in
        let q = ends v k named in
        let is = some_same q.edge e (sym m.2 ∙ at) in
        let adds = q.adds in
        let cost = ap (λ (x : Edge). x.cost) is in
        let tail = ap (λ (x : Edge). number_of numbers x.tail) is in
        let head = ap (number_of numbers) (sym (ap (λ (x : Edge). x.head) is) ∙ q.arrives) in
        omega (arith, ints)

-- what a search gave, of the residual network
pub searched_of : (net : Network) (flow : List ℕ) (from : ℕ) (r : Residual) (d : Searcher) → IsResidual net.arcs r.edges.items r.steps.items → length flow ≡ length net.arcs →
    length d.last.items ≡ net.points → slice_get d.last.items from ≡ Some None → Permits (usable r.edges.items flow) d.numbers.items →
    ((v k : ℕ) → slice_get d.last.items v ≡ Some (Some k) → EndsLeast (usable r.edges.items flow) d.numbers.items v k) →
    ((v k : ℕ) → slice_get d.last.items v ≡ Some (Some k) → (n : ℕ) × (n < net.points) × ClimbsIn (usable r.edges.items flow) d.last.items from n v) → IsSearchOf net flow from r d
searched_of net flow from r d residual each last_each root permits ends tree = record {
  last_each = last_each;
  tight = tight_from_permits net.arcs flow r.edges.items r.steps.items residual each d.numbers.items permits;
  root = root;
  ends = λ v k named.
      let m = tree_move net.arcs flow r.edges.items r.steps.items residual each net.points from d.numbers.items d.last.items root ends tree v k named in
      let q = ends v k named in
      record { edge = q.edge; step = m.0; there = m.2; arrives = q.arrives; step_there = m.1; move = m.3 };
  tree = λ v k named. let t = tree v k named in (t.0, t.1, climb_plain net.arcs flow r.edges.items r.steps.items residual each net.points from d.numbers.items d.last.items root ends tree t.0 v t.2);
  tree_tight = tree_tight' net.arcs flow r.edges.items r.steps.items residual each net.points from d.numbers.items d.last.items root ends tree;
}

-- ---- the potentials of a search from the root are the least

pub least_on_climb : (net : Network) (flow : List ℕ) (from : ℕ) (r : Residual) (d : Searcher) (q : ℕ → ℤ) → IsSearchOf net flow from r d → number_of d.numbers.items from ≡ pos 0 → q from ≡ pos 0 → IsTight net.arcs flow q →
    (n v : ℕ) → ClimbsIn r.edges.items d.last.items from n v → potential_of d.numbers.items v ≤ℤ q v
least_on_climb net flow from r d q s start root t zero v c = let a = ap (number_of d.numbers.items) c in let b = ap q c in omega (arith, ints)
least_on_climb net flow from r d q s start root t (suc n) v c =
    let below = least_on_climb net flow from r d q s start root t n c.1.tail c.4 in
    let e = s.ends v c.0 c.2 in
    let is = some_same e.edge c.1 (sym e.there ∙ c.3) in
    let tight = s.tree_tight v c.0 c.1 c.2 c.3 in
    let along = by e.edge e.step e.move in
    let tail = ap (λ (x : Edge). q x.tail) is in
    let head = ap (λ (x : Edge). q x.head) is in
    let cost = ap (λ (x : Edge). x.cost) is in
    let arrives = ap q e.arrives in
    let number = ap (number_of d.numbers.items) (sym (ap (λ (x : Edge). x.head) is) ∙ e.arrives) in
    omega (arith, ints)
  where
    by : (x : Edge) (p : Step) → IsMove net.arcs flow x p → q x.tail ≤ℤ (q x.head +ℤ x.cost)
    by x p (more j a h) = let w = t.rises j a h in omega (arith, ints)
    by x p (fewer j a h some) = let w = t.no_more j a h some in omega (arith, ints)

pub least_of_all : (net : Network) (flow : List ℕ) (from : ℕ) (r : Residual) (d : Searcher) (q : ℕ → ℤ) → IsSearchOf net flow from r d → number_of d.numbers.items from ≡ pos 0 → q from ≡ pos 0 → IsTight net.arcs flow q →
    ((v : ℕ) → v < net.points → v ≢ from → IsLinked d.last.items v) → (v : ℕ) → v < net.points → potential_of d.numbers.items v ≤ℤ q v
least_of_all net flow from r d q s start root t linked v l =
    elim (cases_eq v from) [
      | inl same ↦ least_on_climb net flow from r d q s start root t 0 v same
      | inr ne ↦ let k = linked v l ne in let c = s.tree v k.0 k.1 in least_on_climb net flow from r d q s start root t c.0 v c.2
    ]

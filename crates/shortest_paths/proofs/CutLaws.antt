-- What the points have after a search, also one that stopped early.
use Rattle.std.proofs.Common.{◌≡◌, ◌≢◌, ℕ, zero, suc, ◌<◌, ℤ, pos, ◌+ℤ◌, ◌≤ℤ◌, List, [], ◌∷◌, ◌++◌, length, slice_get, slice_index_or, Option, Some, None, inl, inr, refl, sym, ap, subst, ◌∙◌, arith}
use Rattle.std.specs.List.{All}
use Rattle.std.proofs.lemmas.Int.{ints}
use Rattle.std.proofs.lemmas.Option.{slice_get-get_or, slice_get_within, get_or_from_slice_get}
use Rattle.std.proofs.lemmas.List.Elements.{All-contains}
use Rattle.shortest_paths.specs.declared.edges.Edge.{Edge}
use Rattle.shortest_paths.specs.declared.edges.Best.{Best}
use Rattle.shortest_paths.specs.Walks.{Joins, IsWalk, IsLeastCost, EndsLeast, ClimbsIn, cost_of, number_of}
use Rattle.shortest_paths.specs.Search.{found, IsSearched}
use Rattle.shortest_paths.specs.Nearest.{Permits, AreSettledBelow, IsCut, IsLinked}
use Rattle.shortest_paths.proofs.WalkLaws.{some_same, edge_at, walk_from_potentials, walk_from_back, back_from_traced, IsWalk-append, cost_of-append}
use Rattle.shortest_paths.proofs.TreeFacts.{Older, tree_from_older}

module _ (edges : List Edge) (points from : ℕ) (best : List (Option Best)) (limit : ℤ) (old new : List ℤ) (last : List (Option ℕ))
    (len : length best ≡ points) (len_last : length last ≡ points) (inside : from < points) (joins : All (Joins points) edges)
    (s : IsSearched edges from best) (permits : Permits edges old) (settled : AreSettledBelow best old limit edges)
    (far : pos 0 ≤ℤ (number_of old from +ℤ limit)) (cut : IsCut best limit old new last) where
  -- a number is at most the old one and the limit, and at most the cost that was found
  below_limit : (v : ℕ) → v < points → number_of new v ≤ℤ (number_of old v +ℤ limit)
  below_limit v l = elim (cut v (omega arith)) [
    | inl near ↦ let cost = near.3 in let le = near.2 in omega (arith, ints)
    | inr away ↦ let cost = away.1 in omega (arith, ints)
  ]

  below_cost : (v : ℕ) (b : Best) → v < points → found best v ≡ Some b → number_of new v ≤ℤ b.cost
  below_cost v b l f = elim (cut v (omega arith)) [
    | inl near ↦ let is = ap (λ (x : Best). x.cost) (some_same near.0 b (sym near.1 ∙ f)) in let cost = near.3 in omega (arith, ints)
    | inr away ↦ let more = away.0 b f in let cost = away.1 in omega (arith, ints)
  ]

  pub permits_new : Permits edges new
  permits_new e has =
      let ends = All-contains (Joins points) edges e joins has in
      let high = below_limit e.head ends.1 in
      let held = permits e has in
      elim (cut e.tail (let l = ends.0 in omega arith)) [
        | inl near ↦
            let cost = near.3 in
            elim (settled e has near.0 near.1) [
              | inl less ↦ let le = less.2 in let q = below_cost e.head less.0 ends.1 less.1 in omega (arith, ints)
              | inr beyond ↦ omega (arith, ints)
            ]
        | inr away ↦ let cost = away.1 in omega (arith, ints)
      ]

  pub start_new : (number_of new from ≡ pos 0) × (slice_get last from ≡ Some None)
  start_new =
      let at : slice_get last from ≡ Some (slice_index_or last from None) = slice_get-get_or last from None (omega arith) in
      elim (cut from (omega arith)) [
        | inl near ↦
            let is = some_same near.0 (record { cost = pos 0; last = None }) (sym near.1 ∙ s.start) in
            let cost = near.3 in
            let zero_is = ap (λ (x : Best). x.cost) is in
            (omega (arith, ints), at ∙ ap Some (near.4 ∙ ap (λ (x : Best). x.last) is))
        | inr away ↦ let more = away.0 (record { cost = pos 0; last = None }) s.start in absurd (omega (arith, ints))
      ]

  -- the last edge of a point in the tree, from its tail, which is older and in the tree too, or the start
  pub record Link (v k : ℕ) : Type 0 where
    pub edge : Edge
    pub at : slice_get edges k ≡ Some edge
    pub arrives : edge.head ≡ v
    pub adds : number_of new v ≡ number_of new edge.tail +ℤ edge.cost
    pub older : s.stamp edge.tail < s.stamp v
    pub tail_in : edge.tail < points
    pub tail_linked : edge.tail ≢ from → IsLinked last edge.tail

  pub link : (v k : ℕ) → v < points → slice_index_or last v None ≡ Some k → Link v k
  link v k l named =
      elim (cut v (omega arith)) [
        | inr away ↦ let q = sym away.2 ∙ named in absurd (cc)
        | inl near ↦
            let apart : v ≢ from = λ same.
            let is = some_same near.0 (record { cost = pos 0; last = None }) (sym near.1 ∙ subst (λ x. found best x ≡ Some (record { cost = pos 0; last = None })) (sym same) s.start) in
            let q = sym named ∙ near.4 ∙ ap (λ (x : Best). x.last) is in cc in
            let o = s.lasts v near.0 apart near.1 in
            let k_is : k ≡ o.index = let q = sym named ∙ near.4 ∙ o.is_last in cc in
            let has = edge_at edges o.index o.edge o.at in
            let ends = All-contains (Joins points) edges o.edge joins has in
            let held = permits_new o.edge has in
            let tail_below = below_cost o.edge.tail o.tail ends.0 o.tail_found in
            let no_more = o.no_more in
            let cost = near.3 in
            let head_is = ap (number_of new) o.arrives in
            let tight : o.tail.cost +ℤ o.edge.cost ≡ near.0.cost = omega (arith, ints) in
            record {
              edge = o.edge;
              at = subst (λ x. slice_get edges x ≡ Some o.edge) (sym k_is) o.at;
              arrives = o.arrives;
              adds = omega (arith, ints);
              older = o.earlier tight;
              tail_in = ends.0;
              tail_linked = λ ne. tail_link o.edge.tail o.tail ends.0 ne o.tail_found (omega (arith, ints));
            }
      ]
    where
      tail_link : (u : ℕ) (b : Best) → u < points → u ≢ from → found best u ≡ Some b → number_of new u ≡ b.cost → IsLinked last u
      tail_link u b less ne f cost_is =
          let o = s.lasts u b ne f in
          elim (cut u (omega arith)) [
            | inl near ↦ (o.index, slice_get-get_or last u None (omega arith) ∙ ap Some (near.4 ∙ ap (λ (x : Best). x.last) (some_same near.0 b (sym near.1 ∙ f)) ∙ o.is_last))
            | inr away ↦ let more = away.0 b f in let cost = away.1 in absurd (omega (arith, ints))
          ]

  named_at : (v k : ℕ) → slice_get last v ≡ Some (Some k) → (v < points) × (slice_index_or last v None ≡ Some k)
  named_at v k h = let l = slice_get_within last v (Some k) h in ((omega arith), get_or_from_slice_get last v (Some k) None h)

  pub ends_new : (v k : ℕ) → slice_get last v ≡ Some (Some k) → EndsLeast edges new v k
  ends_new v k h = let n = named_at v k h in let q = link v k n.0 n.1 in record { edge = q.edge; at = q.at; arrives = q.arrives; adds = q.adds }

  -- the points of the tree
  abbrev InTree : ℕ → Type 0
  InTree v = (v < points) × (v ≢ from → IsLinked last v)

  is_older : (v : ℕ) → InTree v → v ≢ from → Older InTree edges last s.stamp v
  is_older v h ne =
      let n = h.1 ne in
      let q = link v n.0 h.0 (named_at v n.0 n.1).1 in
      record {
        index = n.0;
        edge = q.edge;
        named = n.1;
        at = q.at;
        within = (q.tail_in, q.tail_linked);
        older = q.older;
      }

  pub tree_new : (v k : ℕ) → slice_get last v ≡ Some (Some k) → (n : ℕ) × (n < points) × ClimbsIn edges last from n v
  tree_new v k h = let n = named_at v k h in tree_from_older points InTree edges last s.stamp from (λ x p. p.0) is_older v (n.0, λ _. (k, h))

  -- a point that costs no more than the limit is in the tree
  pub near_linked : (v : ℕ) (b : Best) → v < points → v ≢ from → found best v ≡ Some b → b.cost ≤ℤ (number_of old v +ℤ limit) → IsLinked last v
  near_linked v b l ne f near =
      let o = s.lasts v b ne f in
      elim (cut v (omega arith)) [
        | inl q ↦ (o.index, slice_get-get_or last v None (omega arith) ∙ ap Some (q.4 ∙ ap (λ (x : Best). x.last) (some_same q.0 b (sym q.1 ∙ f)) ∙ o.is_last))
        | inr away ↦ let more = away.0 b f in absurd (omega (arith, ints))
      ]

-- no walk that was found costs less than the numbers permit
pub found_permitted : (edges : List Edge) (from : ℕ) (best : List (Option Best)) (numbers : List ℤ) (v : ℕ) (b : Best) → Permits edges numbers → IsSearched edges from best → found best v ≡ Some b →
    number_of numbers v ≤ℤ (number_of numbers from +ℤ b.cost)
found_permitted edges from best numbers v b permits s f =
    let w = s.walks v b f in
    let walk = walk_from_back edges from v w.0 (back_from_traced edges from v best w.0 w.1) in
    let le = walk_from_potentials edges (number_of numbers) from v walk.0 permits walk.1 in
    let a = walk.2 in
    let c = w.2 in
    omega (arith, ints)

-- ---- a tree whose last edges are tight has least walks

pub tree_walk : (edges : List Edge) (least : List ℤ) (last : List (Option ℕ)) (from : ℕ) → number_of least from ≡ pos 0 → ((v k : ℕ) → slice_get last v ≡ Some (Some k) → EndsLeast edges least v k) →
    (n v : ℕ) → ClimbsIn edges last from n v → (walk : List Edge) × IsWalk edges from walk v × (cost_of walk ≡ number_of least v)
tree_walk edges least last from root ends zero v c = ([], sym c, (let same = ap (number_of least) c in omega (arith, ints)))
tree_walk edges least last from root ends (suc n) v c =
    let rest = tree_walk edges least last from root ends n c.1.tail c.4 in
    let q = ends v c.0 c.2 in
    let is = some_same q.edge c.1 (sym q.at ∙ c.3) in
    let has = edge_at edges c.0 c.1 c.3 in
    let one : IsWalk edges c.1.tail (c.1 ∷ []) v = (has, refl, sym (ap (λ (x : Edge). x.head) is) ∙ q.arrives) in
    let sum = cost_of-append rest.0 (c.1 ∷ []) in
    let same = rest.2 in
    let adds = q.adds in
    let cost = ap (λ (x : Edge). x.cost) is in
    let tail = ap (λ (x : Edge). number_of least x.tail) is in
    (rest.0 ++ c.1 ∷ [], IsWalk-append edges from c.1.tail v rest.0 (c.1 ∷ []) rest.1 one, omega (arith, ints))

pub tree_least : (edges : List Edge) (least : List ℤ) (last : List (Option ℕ)) (from n v : ℕ) → Permits edges least → number_of least from ≡ pos 0 → ((v k : ℕ) → slice_get last v ≡ Some (Some k) → EndsLeast edges least v k) →
    ClimbsIn edges last from n v → IsLeastCost edges from v (number_of least v)
tree_least edges least last from n v permits root ends c = record {
  walked = tree_walk edges least last from root ends n v c;
  none_less = λ walk w. let le = walk_from_potentials edges (number_of least) from v walk permits w in omega (arith, ints);
}

-- least costs are numbers that no edge exceeds
pub permits_from_least : (edges : List Edge) (points from : ℕ) (least : List ℤ) → All (Joins points) edges → ((v : ℕ) → v < points → IsLeastCost edges from v (number_of least v)) → Permits edges least
permits_from_least edges points from least joins costs e has =
    let j = All-contains (Joins points) edges e joins has in
    let w = (costs e.tail j.0).walked in
    let longer = IsWalk-append edges from e.tail e.head w.0 (e ∷ []) w.1 (has, refl, refl) in
    let no_less = (costs e.head j.1).none_less (w.0 ++ e ∷ []) longer in
    let sum = cost_of-append w.0 (e ∷ []) in
    let same = w.2 in
    omega (arith, ints)

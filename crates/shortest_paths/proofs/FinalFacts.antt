-- What a search that is over says of least costs and last edges.
use Rattle.std.proofs.Common.{◌≡◌, ◌≢◌, ℕ, ◌+◌, ◌<◌, ◌^◌, ℤ, pos, negsuc, ◌+ℤ◌, neg_ℤ, ◌≤ℤ◌, ◌<ℤ◌, List, length, set, Option, Some, None, inl, inr, refl, sym, ap, subst, ◌∙◌, arith, slice_get, IsSome}
use Rattle.std.specs.List.{All}
use Rattle.std.proofs.lemmas.Int.{ints}
use Rattle.std.proofs.lemmas.Bool.{cases_eq}
use Rattle.std.proofs.lemmas.List.Elements.{All-contains}
use Rattle.std.proofs.lemmas.List.Sums.{sum_by-set}
use Rattle.shortest_paths.specs.declared.edges.Edge.{Edge}
use Rattle.shortest_paths.specs.declared.edges.Best.{Best}
use Rattle.shortest_paths.specs.Walks.{IsWalk, cost_of, Joins, IsWithin, IsLeastCost, Reaches, ClimbsIn, EndsLeast, number_of, from_zero}
use Rattle.shortest_paths.specs.Search.{found, AtMost, IsSearched, AreSettled, LastOf, IsReadOff, room, room_of}
use Rattle.shortest_paths.proofs.WalkLaws.{back_from_traced, walk_from_back, some_same, edge_at}
use Rattle.shortest_paths.proofs.EndFacts.{settled_walk}
use Rattle.shortest_paths.proofs.TreeFacts.{tree_from_older, Older}

pub found_all : (edges : List Edge) (points from : ℕ) (best : List (Option Best)) → IsSearched edges from best → AreSettled best edges →
    ((v : ℕ) → v < points → Reaches edges from v) → (v : ℕ) → v < points → IsSome (found best v)
found_all edges points from best s settled reached v l =
    let r = reached v l in
    let h = settled_walk edges best from v r.0 (record { cost = pos 0; last = None }) settled r.1 s.start in
    subst (λ o. IsSome o) (sym h.1) refl

module _ (edges : List Edge) (points from : ℕ) (best : List (Option Best)) (least : List ℤ) (last : List (Option ℕ))
    (s : IsSearched edges from best) (settled : AreSettled best edges)
    (reached : (v : ℕ) → v < points → Reaches edges from v) (joins : All (Joins points) edges)
    (seen : List (Option Best)) (same_best : seen ≡ best) (read_seen : IsReadOff seen least last) where
  read : IsReadOff best least last
  read = subst (λ x. IsReadOff x least last) same_best read_seen

  pub found_costs : (v : ℕ) (walk : List Edge) → IsWalk edges from walk v → AtMost best v (cost_of walk)
  found_costs v walk w =
      let h = settled_walk edges best from v walk (record { cost = pos 0; last = None }) settled w s.start in
      let le = h.2 in
      (h.0, h.1, omega (arith, ints))

  found_at : (v : ℕ) → v < points → (b : Best) × (found best v ≡ Some b)
  found_at v l = let r = reached v l in let a = found_costs v r.0 r.1 in (a.0, a.1)

  pub costs_least : (v : ℕ) → v < points → IsLeastCost edges from v (number_of least v)
  costs_least v l =
      let f = found_at v l in
      let same = read.costs v f.0 f.1 in
      let w = s.walks v f.0 f.1 in
      let walk = walk_from_back edges from v w.0 (back_from_traced edges from v best w.0 w.1) in
      record {
        walked = (walk.0, walk.1, walk.2 ∙ w.2 ∙ sym same);
        none_less = λ q h.
            let a = found_costs v q h in
            let b_is = ap (λ (x : Best). x.cost) (some_same a.0 f.0 (sym a.1 ∙ f.1)) in
            let le = a.2 in
            omega (arith, ints);
      }

  last_is_tight : (v : ℕ) (b : Best) (l : LastOf edges best s.stamp v b) → found best v ≡ Some b → l.tail.cost +ℤ l.edge.cost ≡ b.cost
  last_is_tight v b l f =
      let has = edge_at edges l.index l.edge l.at in
      let a = settled l.edge has l.tail l.tail_found in
      let a_found = subst (λ x. found best x ≡ Some a.0) l.arrives a.1 in
      let b_is = ap (λ (x : Best). x.cost) (some_same a.0 b (sym a_found ∙ f)) in
      let le = a.2 in
      let no_more = l.no_more in
      omega (arith, ints)

  pub none_at_start : slice_get last from ≡ Some None
  none_at_start = read.lasts from (record { cost = pos 0; last = None }) s.start

  pub last_ends_least : (v k : ℕ) → v < points → slice_get last v ≡ Some (Some k) → EndsLeast edges least v k
  last_ends_least v k p h =
      let apart : v ≢ from = λ same. let q = sym none_at_start ∙ subst (λ x. slice_get last x ≡ Some (Some k)) same h in cc in
      let f = found_at v p in
      let l = s.lasts v f.0 apart f.1 in
      let k_is : Some k ≡ Some l.index = some_same (Some k) (Some l.index) (sym h ∙ read.lasts v f.0 f.1 ∙ ap Some l.is_last) in
      let k_same = some_same k l.index k_is in
      let sum = last_is_tight v f.0 l f.1 in
      let head = read.costs v f.0 f.1 in
      let tail = read.costs l.edge.tail l.tail l.tail_found in
      record {
        edge = l.edge;
        at = subst (λ x. slice_get edges x ≡ Some l.edge) (sym k_same) l.at;
        arrives = l.arrives;
        adds = omega (arith, ints);
      }

  pub none_at_start_alone : (v : ℕ) → v < points → (slice_get last v ≡ Some None) → v ≡ from
  none_at_start_alone v p h =
      elim (cases_eq v from) [
        | inl same ↦ same
        | inr ne ↦ let f = found_at v p in let l = s.lasts v f.0 ne f.1 in absurd (let q = sym h ∙ read.lasts v f.0 f.1 ∙ ap Some l.is_last in cc)
      ]

  last_is_older : (v : ℕ) → v < points → v ≢ from → Older (λ x. x < points) edges last s.stamp v
  last_is_older v p ne =
      let f = found_at v p in
      let l = s.lasts v f.0 ne f.1 in
      let has = edge_at edges l.index l.edge l.at in
      record {
        index = l.index;
        edge = l.edge;
        named = read.lasts v f.0 f.1 ∙ ap Some l.is_last;
        at = l.at;
        within = (All-contains (Joins points) edges l.edge joins has).0;
        older = l.earlier (last_is_tight v f.0 l f.1);
      }

  pub climbs_to_start : (v : ℕ) → v < points → (n : ℕ) × (n < points) × ClimbsIn edges last from n v
  climbs_to_start v p = tree_from_older points (λ x. x < points) edges last s.stamp from (λ x l. l) last_is_older v p

-- ---- a search ends

pub room_falls : (best : List (Option Best)) (v : ℕ) (b : Best) → v < length best → IsWithin (2 ^ 60) b.cost → ((a : Best) → found best v ≡ Some a → b.cost <ℤ a.cost) → room (set best v (Some b)) < room best
room_falls best v b l bounds falls =
    let sum = sum_by-set room_of best v (Some b) None l in
    let less = by (found best v) falls in
    omega arith
  where
    by : (o : Option Best) → ((a : Best) → o ≡ Some a → b.cost <ℤ a.cost) → room_of (Some b) < room_of o
    by None h = let low = bounds.0 in let high = bounds.1 in small (b.cost) low high
      where
        small : (z : ℤ) → neg_ℤ (pos (2 ^ 60)) ≤ℤ z → z ≤ℤ pos (2 ^ 60) → from_zero (z +ℤ pos (2 ^ 61)) < 2 ^ 62
        small z low high = at (z +ℤ pos (2 ^ 61)) (omega (arith, ints))
          where
            at : (y : ℤ) → y ≤ℤ pos (2 ^ 60 + 2 ^ 61) → from_zero y < 2 ^ 62
            at (pos n) h = omega (arith, ints)
            at (negsuc n) h = omega arith
    by (Some a) h = let low = bounds.0 in let less = h a refl in at (b.cost +ℤ pos (2 ^ 61)) (a.cost +ℤ pos (2 ^ 61)) (omega (arith, ints)) (omega (arith, ints))
      where
        at : (x y : ℤ) → pos 0 ≤ℤ x → x <ℤ y → from_zero x < from_zero y
        at (pos n) (pos m) p q = omega (arith, ints)
        at (pos n) (negsuc m) p q = absurd (omega (arith, ints))
        at (negsuc n) y p q = absurd (omega (arith, ints))

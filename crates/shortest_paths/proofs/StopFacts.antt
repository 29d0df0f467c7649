-- Where a search stopped, and which points it reached.
use Rattle.std.proofs.Common.{◌≡◌, ◌≢◌, ℕ, ◌+◌, ◌<◌, ◌≤◌, ◌^◌, ℤ, pos, ◌+ℤ◌, ◌-ℤ◌, ◌≤ℤ◌, ◌<ℤ◌, List, length, Option, Some, None, refl, arith, IsSome, to_z, of_z, w64}
use Rattle.std.specs.Option.{MatchOption}
use Rattle.std.specs.List.{All}
use Rattle.std.proofs.lemmas.Int.{ints}
use Rattle.shortest_paths.specs.declared.edges.Edge.{Edge}
use Rattle.shortest_paths.specs.declared.edges.Best.{Best}
use Rattle.shortest_paths.specs.Walks.{Joins, IsWithin, Reaches, number_of}
use Rattle.shortest_paths.specs.Search.{found, IsSearched, AreSettled}
use Rattle.shortest_paths.specs.Nearest.{Permits, AreSmall, IsCut, IsLinked, AreSettledBelow}
use Rattle.shortest_paths.proofs.EndFacts.{found_within}
use Rattle.shortest_paths.proofs.FinalFacts.{found_all}
use Rattle.shortest_paths.proofs.ReadFacts.{found_below}
use Rattle.shortest_paths.proofs.CutLaws.{found_permitted, near_linked}

-- at no point, where each edge is settled, or at a point, by its reduced cost
abbrev pub StopsAt : List Edge → List (Option Best) → List ℤ → List ℤ → ℤ → Option ℕ → Type 0
StopsAt edges best numbers wanted limit o =
    MatchOption o ((limit ≡ pos (2 ^ 62)) × AreSettled best edges) (λ v. (pos 0 <ℤ number_of wanted v) × ((b : Best) × (found best v ≡ Some b) × (limit ≡ b.cost -ℤ number_of numbers v)))

pub read_limit : (z : ℤ) → IsWithin (2 ^ 62) z → to_z w64 (of_z w64 z) ≡ z
read_limit z h = omega (arith, ints, h.0, h.1)

pub read_sum : (z : ℤ) → IsWithin (2 ^ 60 + 2 ^ 62) z → to_z w64 (of_z w64 z) ≡ z
read_sum z h = omega (arith, ints, h.0, h.1)

some_found : (o : Option Best) → IsSome o → (b : Best) × (o ≡ Some b)
some_found None h = absurd (cc)
some_found (Some b) h = (b, refl)

module _ (edges : List Edge) (points from : ℕ) (best : List (Option Best)) (numbers wanted : List ℤ) (limit : ℤ)
    (few : points ≤ 2 ^ 14) (len : length best ≡ points) (joins : All (Joins points) edges) (costs : All (λ e. IsWithin (2 ^ 46) e.cost) edges)
    (s : IsSearched edges from best) (small : AreSmall numbers) (permits : Permits edges numbers) where
  pub stop_far : (o : Option ℕ) → StopsAt edges best numbers wanted limit o → pos 0 ≤ℤ (number_of numbers from +ℤ limit)
  stop_far None h = let is = h.0 in let low = (small from).0 in omega (arith, ints)
  stop_far (Some v) h = let le = found_permitted edges from best numbers v h.1.0 permits s h.1.1 in let is = h.1.2 in omega (arith, ints)

  pub stop_small : (o : Option ℕ) → StopsAt edges best numbers wanted limit o → IsWithin (2 ^ 62) limit
  stop_small None h = let is = h.0 in (omega (arith, ints), omega (arith, ints))
  stop_small (Some v) h =
      let l = found_below best v h.1.0 h.1.1 in
      let cost = found_within edges points from best v h.1.0 few joins costs s (omega arith) h.1.1 in
      let number = small v in
      let is = h.1.2 in
      let a = cost.0 in let b = cost.1 in let c = number.0 in let d = number.1 in
      (omega (arith, ints), omega (arith, ints))

  module _ (new : List ℤ) (last : List (Option ℕ)) (len_last : length last ≡ points) (inside : from < points) (settled : AreSettledBelow best numbers limit edges) (cut : IsCut best limit numbers new last) where
    pub stop_reached : (o : Option ℕ) → StopsAt edges best numbers wanted limit o → ((v : ℕ) → v < points → Reaches edges from v) →
        MatchOption o ((v : ℕ) → v < points → v ≢ from → IsLinked last v) (λ v. (v < points) × (pos 0 <ℤ number_of wanted v) × (v ≢ from → IsLinked last v))
    stop_reached None h reached = λ v l ne.
        let f = some_found (found best v) (found_all edges points from best s h.1 reached v l) in
        let cost = found_within edges points from best v f.0 few joins costs s l f.1 in
        let number = small v in
        let is = h.0 in
        let a = cost.1 in let b = number.0 in
        near_linked edges points from best limit numbers new last len len_last inside joins s permits settled (stop_far None h) cut v f.0 l ne f.1 (omega (arith, ints))
    stop_reached (Some v) h reached =
        let l : v < points = let q = found_below best v h.1.0 h.1.1 in omega arith in
        let is = h.1.2 in
        (l, h.0, λ ne. near_linked edges points from best limit numbers new last len len_last inside joins s permits settled (stop_far (Some v) h) cut v h.1.0 l ne h.1.1 (omega (arith, ints)))

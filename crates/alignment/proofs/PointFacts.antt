-- The points of a graph's network by their numbers.
use Rattle.std.proofs.Common.{◌≡◌, ℕ, zero, suc, ◌+◌, ◌<◌, ◌≤◌, ℤ, List, [], ◌∷◌, length, map, drop, get_or, slice_index, refl, sym, ap, subst, ◌∙◌, arith, Contains, IsPermutation, ⊎_elim, inl, inr, nat_cmp, Result, Err}
use Rattle.std.specs.Result.{MatchResult}
use Rattle.std.specs.List.Sorted.{IsStrictlyIncreasing, IsSorted, IsNonDecreasingBy, IsBinarySearchResult}
use Rattle.std.proofs.lemmas.Bool.{cases_order, cases_lt}
use Rattle.std.proofs.lemmas.List.Sums.{count_by-le-length, length-filter}
use Rattle.std.proofs.lemmas.List.Sorted.{All-permutation, Contains-permutation, length_permutation, IsNonDecreasingBy-from_sort, searched}
use Rattle.std.proofs.lemmas.List.{length-drop, length-map, get_or_default}
use Rattle.std.proofs.lemmas.Grind.{get_or_after_one}
use Rattle.std.proofs.lemmas.List.Kept.{AllPairs-from_increasing}
use Rattle.std.proofs.lemmas.List.Elements.{All-from_recursion, recursion_from_All, Contains-get_or}
use Rattle.graph_model.proofs.PathLaws.{at_tail}
use Rattle.graph_model.proofs.ReachLaws.{filter_from}
use Rattle.graph_model.specs.Paths.{IsLive, is_live, live_nodes}
use Rattle.graph_model.specs.Sound.{IsSound}
use Rattle.graph_model.specs.declared.graph.Node.{Node}
use Rattle.graph_model.specs.declared.graph.Graph.{Graph}
use Rattle.plan_model.specs.Alignments.{position_in}
use Rattle.plan_model.specs.Flows.{IsPoint}
use Rattle.plan_model.specs.Rules.{AreLiveNodes}
use Rattle.plan_model.specs.declared.alignment.At.{At}
use Rattle.plan_model.proofs.DistinctFacts.{Differ, differ_permuted}
use Rattle.plan_model.proofs.WaveLaws.{live_differ, kept}
use Rattle.graph_model.proofs.LiveLaws.{live_by}
use Rattle.shortest_paths.specs.Walks.{number_of, from_zero}
use Rattle.alignment.specs.Networks.{ArePoints, number_in}
use Rattle.alignment.specs.Places.{places_of}
use Rattle.alignment.proofs.PlaceListFacts.{stands_at, zero_first, names_of, later_has, later_position}
use Rattle.alignment.proofs.ValueFacts.{live_is_named}

-- a list that never falls and has no item twice rises
rising_from : (xs : List ℕ) → Differ xs → IsNonDecreasingBy (λ x. x) xs → IsStrictlyIncreasing xs
rising_from [] differ sorted k lt = absurd (omega arith)
rising_from (x ∷ xs) differ sorted zero lt =
    let le : x ≤ slice_index xs 0 = sorted 0 1 0 (omega arith) lt in
    let apart : x ≡ slice_index xs 0 → ⊥ = λ e. differ.0 (subst (Contains xs) (sym e) (Contains-get_or xs 0 0 (omega arith))) in
    ⊎_elim (λ e. absurd (apart e)) (λ o. ⊎_elim (λ l. l) (λ l. absurd (omega (arith, l, le))) o) (cases_order x (slice_index xs 0))
rising_from (x ∷ xs) differ sorted (suc k) lt =
    let next : suc k + 1 ≡ suc (k + 1) = omega arith in
    rw next (rising_from xs differ.1 (λ i j d le l. sorted (suc i) (suc j) d (omega arith) (omega arith)) k (omega arith))

-- what the search does not find is not there
pub not_there : (xs : List ℕ) (v : ℕ) (r : Result ℕ ℕ) (e : ℕ) → IsStrictlyIncreasing xs → IsBinarySearchResult (λ y. nat_cmp y v) xs r → r ≡ Err e → Contains xs v → ⊥
not_there xs v r e rising result is (k, lt, at) =
    let found = subst (λ q. MatchResult q (λ i. (i < length xs) × (get_or xs i 0 ≡ v)) (λ i. (i ≤ length xs) × ((j : ℕ) → j < i → get_or xs j 0 < v) × ((j : ℕ) → i ≤ j → j < length xs → v < get_or xs j 0))) is
    (searched xs v r result (λ i j le l. rising_far i j le l)) in
    let here : get_or xs k 0 ≡ v = get_or_default xs k 0 v lt ∙ at in
    ⊎_elim
    (λ before. let l = found.1 k before in absurd (omega (arith, l, here)))
    (λ after. let l = found.2 k after lt in absurd (omega (arith, l, here)))
    (cases_lt k e)
  where
    rising_far : (i j : ℕ) → i ≤ j → j < length xs → get_or xs i 0 ≤ get_or xs j 0
    rising_far i j le l =
        ⊎_elim
        (λ same. let s = ap (λ n. get_or xs n 0) same in omega (arith, s))
        (λ o. ⊎_elim (λ lt. let less = AllPairs-from_increasing xs rising i j 0 lt l in omega (arith, less)) (λ lt. absurd (omega arith)) o)
        (cases_order i j)

module _ (g : Graph) (sound : IsSound g) where
  -- the root and the live nodes, sorted, are the points
  pub points_are : (ys : List ℕ) → IsPermutation (0 ∷ live_nodes g) ys → IsSorted nat_cmp ys → ArePoints g ys
  points_are ys moved sorted = record {
    rising = rising_from ys (differ_permuted (0 ∷ live_nodes g) ys moved (none_is_zero, live_differ g sound [])) (IsNonDecreasingBy-from_sort (λ x. x) ys sorted);
    each = All-permutation (IsPoint g) (0 ∷ live_nodes g) ys moved (All-from_recursion (IsPoint g) (0 ∷ live_nodes g) (inl refl, recursion_from_All (IsPoint g) (live_nodes g) (λ k d lt. inr (lives (get_or (live_nodes g) k d) (Contains-get_or (live_nodes g) k d lt)))));
    all = λ v point. Contains-permutation (0 ∷ live_nodes g) ys v moved (there v point);
    few = let few = count_by-le-length (is_live g) (map (λ n. n.uid.0) g.nodes) in
        omega (arith, few, length-filter (is_live g) (map (λ n. n.uid.0) g.nodes), sound.fits.0, length-map g.nodes (λ (n : Node). n.uid.0), length_permutation (0 ∷ live_nodes g) ys moved);
  }
    where
      lives : (v : ℕ) → Contains (live_nodes g) v → IsLive g v
      lives v has = live_by g sound v (filter_from (is_live g) (map (λ n. n.uid.0) g.nodes) v has).1

      none_is_zero : Contains (live_nodes g) 0 → ⊥
      none_is_zero has = let l = live_is_named g sound 0 (lives 0 has) in omega (arith, l)

      there : (v : ℕ) → IsPoint g v → Contains (0 ∷ live_nodes g) v
      there v (inl root) = (0, omega arith, sym root)
      there v (inr live) = at_tail 0 v (live_nodes g) (kept g sound [] v live)

module _ (g : Graph) (points : List ℕ) (sound : IsSound g) (are : ArePoints g points) where
  first_there : (0 < length points) × (slice_index points 0 ≡ 0)
  first_there = zero_first points are.rising (are.all 0 (inl refl))

  -- ---- those beyond the root are the live nodes
  pub later_is_live : (v : ℕ) → Contains (drop 1 points) v → IsLive g v
  later_is_live v (k, lt, e) =
      let below : 1 + k < length points = omega (arith, length-drop 1 points) in
      let more = AllPairs-from_increasing points are.rising 0 (1 + k) 0 (omega arith) below in
      let first = first_there in
      let is : slice_index points (1 + k) ≡ v = sym (get_or_after_one points k 0) ∙ sym (get_or_default (drop 1 points) k v 0 lt) ∙ e in
      elim (are.each (1 + k) 0 below) [ inl none ↦ absurd (omega arith) | inr live ↦ subst (IsLive g) is live ]

  pub live_is_later : (v : ℕ) → IsLive g v → Contains (drop 1 points) v
  live_is_later v live = later_has points v (are.all v (inr live)) (λ same. let first = first_there in let n = live_is_named g sound v live in omega arith)

  pub beyond_root : (v : ℕ) → IsLive g v → 0 < number_in points v
  beyond_root v live =
      positive (number_in points v)
      (λ none.
      let e = ap (slice_index points) none in
      let z = first_there in
      let w = stands_at g points v (are.all v (inr live)) in
      let n = live_is_named g sound v live in
      omega arith)
    where
      positive : (n : ℕ) → (n ≡ 0 → ⊥) → 0 < n
      positive zero h = absurd (h refl)
      positive (suc n) h = omega arith

  -- ---- positions, where the root is left out
  module _ (potential : List ℤ) (each : length potential ≡ length points) where
    abbrev at : List At
    at = places_of (drop 1 points) (drop 1 potential)

    -- their names are the live nodes
    pub live_nodes_are : AreLiveNodes g (map (λ a. a.uid.0) at)
    live_nodes_are =
        subst (AreLiveNodes g) (sym (names_of (drop 1 points) (drop 1 potential) (omega (arith, length-drop 1 points, length-drop 1 potential, each))))
        (record {
          ascending = λ k lt.
              let a = get_or_after_one points k 0 in
              let b = get_or_after_one points (k + 1) 0 in
              let r = AllPairs-from_increasing points are.rising (1 + k) (1 + (k + 1)) 0 (omega arith) (omega (arith, length-drop 1 points)) in
              omega arith;
          each = λ k d lt. later_is_live (get_or (drop 1 points) k d) (Contains-get_or (drop 1 points) k d lt);
          all = live_is_later;
        })

    -- the position of a live node is the potential at its number
    pub live_position : (v : ℕ) → IsLive g v → position_in at v ≡ from_zero (number_of potential (number_in points v))
    live_position v live =
        let s = stands_at g points v (are.all v (inr live)) in
        ap (position_in at) (sym s.1) ∙ later_position points potential are.rising each (number_in points v) (beyond_root v live) s.0

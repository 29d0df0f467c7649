-- The live nodes in order.
use Rattle.std.proofs.Common.{◌≡◌, ℕ, zero, suc, ◌+◌, ◌≤◌, List, [], ◌∷◌, map, get_or, slice_index, sym, subst, arith, Contains, IsPermutation, ⊎_elim, nat_cmp}
use Rattle.std.specs.List.Sorted.{IsStrictlyIncreasing, IsSorted, IsNonDecreasingBy}
use Rattle.std.proofs.lemmas.Bool.{cases_order}
use Rattle.std.proofs.lemmas.List.Sorted.{All-permutation, Contains-permutation, IsNonDecreasingBy-from_sort}
use Rattle.std.proofs.lemmas.List.Elements.{Contains-get_or}
use Rattle.graph_model.specs.Paths.{IsLive, is_live, live_nodes}
use Rattle.graph_model.specs.Sound.{IsSound}
use Rattle.graph_model.specs.declared.graph.Graph.{Graph}
use Rattle.graph_model.proofs.LiveLaws.{live_by}
use Rattle.graph_model.proofs.ReachLaws.{filter_from}
use Rattle.plan_model.specs.Rules.{AreLiveNodes}
use Rattle.plan_model.proofs.DistinctFacts.{Differ, differ_permuted}
use Rattle.plan_model.proofs.WaveLaws.{live_differ, kept}

-- a list that never falls and has no item twice rises
rising_from : (xs : List ℕ) → Differ xs → IsNonDecreasingBy (λ x. x) xs → IsStrictlyIncreasing xs
rising_from [] differ sorted k lt = absurd (omega arith)
rising_from (x ∷ xs) differ sorted zero lt =
    let le : x ≤ slice_index xs 0 = sorted 0 1 0 (omega arith) lt in
    let apart : x ≡ slice_index xs 0 → ⊥ = λ e. differ.0 (subst (Contains xs) (sym e) (Contains-get_or xs 0 0 (omega arith))) in
    ⊎_elim (λ e. absurd (apart e)) (λ o. ⊎_elim (λ l. l) (λ l. absurd (omega (arith, l, le))) o) (cases_order x (slice_index xs 0))
rising_from (x ∷ xs) differ sorted (suc k) lt =
    let next : suc k + 1 ≡ suc (k + 1) = omega arith in
    rw next (rising_from xs differ.1 (λ i j d le l. sorted (suc i) (suc j) d (omega arith) (omega arith)) k (omega arith))

-- the live nodes, sorted
pub sorted_live : (g : Graph) (sound : IsSound g) (ys : List ℕ) → IsPermutation (live_nodes g) ys → IsSorted nat_cmp ys → AreLiveNodes g ys
sorted_live g sound ys moved sorted = record {
  ascending = rising_from ys (differ_permuted (live_nodes g) ys moved (live_differ g sound [])) (IsNonDecreasingBy-from_sort (λ x. x) ys sorted);
  each = All-permutation (IsLive g) (live_nodes g) ys moved (λ k d lt. lives (get_or (live_nodes g) k d) (Contains-get_or (live_nodes g) k d lt));
  all = λ v live. Contains-permutation (live_nodes g) ys v moved (kept g sound [] v live);
}
  where
    lives : (v : ℕ) → Contains (live_nodes g) v → IsLive g v
    lives v has = live_by g sound v (filter_from (is_live g) (map (λ n. n.uid.0) g.nodes) v has).1

-- One round over the edges.
use Rattle.std.proofs.Common.{◌≡◌, ℕ, zero, suc, ◌+◌, ◌<◌, ◌≤◌, ◌^◌, pos, ◌+ℤ◌, List, [], length, set, slice_set, Option, Some, None, inl, inr, refl, sym, ap, subst, ◌∙◌, arith, slice_index_or, get_or, get_or-set_same, get_or-set_other, take, drop, ◌++◌, replicate}
use Rattle.std.proofs.lemmas.List.{length-replicate}
use Rattle.std.proofs.Math.Seq.{take-append_seam}
use Rattle.std.specs.List.{All}
use Rattle.std.proofs.lemmas.Option.{slice_get-get_or}
use Rattle.std.proofs.lemmas.List.{get_or_default}
use Rattle.std.proofs.lemmas.Bool.{cases_eq}
use Rattle.shortest_paths.specs.declared.edges.Edge.{Edge}
use Rattle.shortest_paths.specs.declared.edges.Best.{Best}
use Rattle.shortest_paths.specs.Walks.{Joins, IsWithin, HasNoNegativeCycle, cost_of}
use Rattle.shortest_paths.proofs.WalkLaws.{some_same}
use Rattle.shortest_paths.specs.Search.{found, Traced, IsSearched, IsSettled, IsImprovement, room}
use Rattle.shortest_paths.proofs.StepFacts.{IsSearched-step}
use Rattle.shortest_paths.proofs.EndFacts.{found_within}
use Rattle.shortest_paths.proofs.FinalFacts.{room_falls}

module _ (edges : List Edge) (old new : List (Option Best)) (k : ℕ) (d : Edge)
    (few : length old ≤ 2 ^ 14) (joins : All (Joins (length old)) edges) (costs : All (λ e. IsWithin (2 ^ 46) e.cost) edges) (none : HasNoNegativeCycle edges)
    (within : k < length edges) (imp : IsImprovement old new k (slice_index_or edges k d)) where
  pub improved_searched : (from : ℕ) → IsSearched edges from old → IsSearched edges from new
  improved_searched from s =
      let e : Edge = slice_index_or edges k d in
      subst (λ x. IsSearched edges from x) (sym imp.written)
      (IsSearched-step edges from old k e imp.tail none s (slice_get-get_or edges k d within) imp.improves (joins k d within).1)

  pub improved_room : (from : ℕ) → IsSearched edges from old → room new < room old
  improved_room from s =
      let e : Edge = slice_index_or edges k d in
      let b : Best = record { cost = imp.tail.cost +ℤ e.cost; last = Some k } in
      let next : List (Option Best) = slice_set old e.head (Some (record { cost = imp.tail.cost +ℤ e.cost; last = Some k })) in
      let l = (joins k d within).1 in
      let s' = IsSearched-step edges from old k e imp.tail none s (slice_get-get_or edges k d within) imp.improves l in
      let at_head = get_or-set_same old e.head (Some (record { cost = imp.tail.cost +ℤ e.cost; last = Some k })) None l in
      let bounds = found_within edges (length old) from next e.head (record { cost = imp.tail.cost +ℤ e.cost; last = Some k }) few joins costs s' l at_head in
      subst (λ x. room x < room old) (sym imp.written) (room_falls old e.head (record { cost = imp.tail.cost +ℤ e.cost; last = Some k }) l bounds (λ a f. imp.improves.cheaper a f))

pub settled_more : (best : List (Option Best)) (edges : List Edge) (k : ℕ) (d : Edge) → k < length edges →
    ((j : ℕ) (e : Edge) → j < k → IsSettled best (slice_index_or edges j e)) → IsSettled best (slice_index_or edges k d) → (j : ℕ) (e : Edge) → j < k + 1 → IsSettled best (slice_index_or edges j e)
settled_more best edges k d within below here j e l =
    elim (cases_eq j k) [
      | inl same ↦ subst (λ x. IsSettled best x) (get_or_default edges k d e within ∙ ap (λ i. get_or edges i e) (sym same)) here
      | inr ne ↦ below j e (omega arith)
    ]

pub written_back : (n : ℕ) (new old : List (Option Best)) → length new ≡ n → take n (new ++ drop (length new) old) ≡ new
written_back n new old e = subst (λ k. take k (new ++ drop (length new) old) ≡ new) e (take-append_seam new (drop (length new) old))

pub found_in_none : (points v : ℕ) → found (replicate points None) v ≡ None
found_in_none zero v = refl
found_in_none (suc n) zero = refl
found_in_none (suc n) (suc v) = found_in_none n v

-- the search begins with the empty walk
pub searched_first : (edges : List Edge) (points from : ℕ) → from < points → IsSearched edges from (set (replicate points None) from (Some (record { cost = pos 0; last = None })))
searched_first edges points from l = record {
  start = at_from;
  walks = walks;
  stamp = λ _. 0;
  clock = 1;
  before = λ _. omega arith;
  lasts = λ v b ne f. absurd (ne (only v b f));
}
  where
    at_from : found (set (replicate points None) from (Some (record { cost = pos 0; last = None }))) from ≡ Some (record { cost = pos 0; last = None })
    at_from = get_or-set_same (replicate points None) from (Some (record { cost = pos 0; last = None })) None (rw length-replicate l)

    only : (v : ℕ) (b : Best) → found (set (replicate points None) from (Some (record { cost = pos 0; last = None }))) v ≡ Some b → v ≡ from
    only v b f =
        elim (cases_eq v from) [
          | inl same ↦ same
          | inr ne ↦ let h = sym (get_or-set_other (replicate points None) from v (Some (record { cost = pos 0; last = None })) None ne ∙ found_in_none points v) ∙ f in absurd (cc)
        ]

    walks : (v : ℕ) (b : Best) → found (set (replicate points None) from (Some (record { cost = pos 0; last = None }))) v ≡ Some b →
        (back : List Edge) × Traced edges from (set (replicate points None) from (Some (record { cost = pos 0; last = None }))) back v × (cost_of back ≡ b.cost)
    walks v b f =
        let same = only v b f in
        let b_is = some_same (record { cost = pos 0; last = None }) b (sym at_from ∙ subst (λ x. found (set (replicate points None) from (Some (record { cost = pos 0; last = None }))) x ≡ Some b) same f) in
        ([], same, ap (λ (x : Best). x.cost) b_is)

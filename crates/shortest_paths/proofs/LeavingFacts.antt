-- The edges that leave each point, found one edge after the other.
use Rattle.std.proofs.Common.{◌≡◌, ◌≢◌, ℕ, zero, suc, ◌+◌, ◌<◌, List, [], ◌∷◌, ◌++◌, length, set, replicate, Option, Some, None, inl, inr, refl, sym, ap, subst, ◌∙◌, arith, slice_get, get_or, get_or-set_same, get_or-set_other, length-set}
use Rattle.std.proofs.lemmas.List.{length-replicate, length-append}
use Rattle.std.proofs.lemmas.Bool.{cases_eq}
use Rattle.std.proofs.lemmas.Option.{slice_get-get_or, slice_get_within}
use Rattle.shortest_paths.specs.declared.edges.Edge.{Edge}
use Rattle.shortest_paths.specs.Leaving.{IsLatest, IsLeaving}
use Rattle.shortest_paths.specs.declared.leaving.Leaving.{Leaving}
use Rattle.shortest_paths.proofs.WalkLaws.{some_same}
use Rattle.shortest_paths.proofs.ReadFacts.{get_below, get_last}

-- what is known of the first n edges
pub record IsLeavingTo (points : ℕ) (edges : List Edge) (n : ℕ) (newest older : List (Option ℕ)) : Type 0 where
  pub newest_each : length newest ≡ points
  pub older_each : length older ≡ n
  pub newest_is : (v : ℕ) → v < points → (o : Option ℕ) × (slice_get newest v ≡ Some o) × IsLatest edges n v o
  pub older_is : (k : ℕ) (e : Edge) → k < n → slice_get edges k ≡ Some e → (o : Option ℕ) × (slice_get older k ≡ Some o) × IsLatest edges k e.tail o

index_replicate : {X : Type 0} (n v : ℕ) (x : X) → v < n → slice_get (replicate n x) v ≡ Some x
index_replicate zero v x l = absurd (omega arith)
index_replicate (suc n) zero x l = refl
index_replicate (suc n) (suc v) x l = index_replicate n v x (omega arith)

pub leaving_first : (points : ℕ) (edges : List Edge) → IsLeavingTo points edges 0 (replicate points None) []
leaving_first points edges = record {
  newest_each = length-replicate points None;
  older_each = refl;
  newest_is = λ v l. (None, index_replicate points v None l, λ j e less. absurd (omega arith));
  older_is = λ k e l. absurd (omega arith);
}

-- the edge at n is the latest that leaves its tail, and none for another point
latest_other : (edges : List Edge) (n v : ℕ) (e : Edge) (o : Option ℕ) → slice_get edges n ≡ Some e → v ≢ e.tail → IsLatest edges n v o → IsLatest edges (n + 1) v o
latest_other edges n v e None at ne h = λ j d l there.
    elim (cases_eq j n) [
      | inl same ↦ λ tail. ne (sym tail ∙ ap (λ (x : Edge). x.tail) (some_same d e (sym there ∙ subst (λ x. slice_get edges x ≡ Some e) (sym same) at)))
      | inr other ↦ h j d (omega arith) there
    ]
latest_other edges n v e (Some k) at ne h = (
  (let l = h.0 in omega arith),
  h.1,
  λ j d more l there. elim (cases_eq j n) [
    | inl same ↦ λ tail. ne (sym tail ∙ ap (λ (x : Edge). x.tail) (some_same d e (sym there ∙ subst (λ x. slice_get edges x ≡ Some e) (sym same) at)))
    | inr other ↦ h.2 j d more (omega arith) there
  ],
)

module _ (points : ℕ) (edges : List Edge) (n : ℕ) (newest older : List (Option ℕ)) (e : Edge) (o : Option ℕ)
    (h : IsLeavingTo points edges n newest older) (at : slice_get edges n ≡ Some e) (inside : e.tail < points) (before : slice_get newest e.tail ≡ Some o) where
  here : IsLatest edges n e.tail o
  here = let q = h.newest_is e.tail inside in subst (λ x. IsLatest edges n e.tail x) (some_same q.0 o (sym q.1 ∙ before)) q.2

  newest_next : (v : ℕ) → v < points → (p : Option ℕ) × (slice_get (set newest e.tail (Some n)) v ≡ Some p) × IsLatest edges (n + 1) v p
  newest_next v l =
      let len = h.newest_each in
      let long : v < length (set newest e.tail (Some n)) = let q = length-set newest e.tail (Some n) in omega arith in
      elim (cases_eq v e.tail) [
        | inl same ↦ (
          Some n,
          slice_get-get_or (set newest e.tail (Some n)) v None long ∙ ap Some (ap (λ x. get_or (set newest e.tail (Some n)) x None) same ∙ get_or-set_same newest e.tail (Some n) None (omega arith)),
          ((omega arith), (λ d there. ap (λ (x : Edge). x.tail) (some_same d e (sym there ∙ at)) ∙ sym same), (λ j d more less. absurd (omega arith))),
        )
        | inr ne ↦
            let q = h.newest_is v l in
            let there : v < length newest = omega arith in (
              q.0,
              slice_get-get_or (set newest e.tail (Some n)) v None long ∙ ap Some (get_or-set_other newest e.tail v (Some n) None ne) ∙ sym (slice_get-get_or newest v None there) ∙ q.1,
              latest_other edges n v e q.0 at ne q.2,
            )
      ]

  older_next : (k : ℕ) (d : Edge) → k < n + 1 → slice_get edges k ≡ Some d → (p : Option ℕ) × (slice_get (older ++ o ∷ []) k ≡ Some p) × IsLatest edges k d.tail p
  older_next k d l there =
      let len = h.older_each in
      elim (cases_eq k n) [
        | inl same ↦
            let is = some_same d e (sym there ∙ subst (λ x. slice_get edges x ≡ Some e) (sym same) at) in (
              o,
              ap (slice_get (older ++ o ∷ [])) (same ∙ sym len) ∙ get_last older o None,
              subst (λ (x : Edge). IsLatest edges k x.tail o) (sym is) (subst (λ x. IsLatest edges x e.tail o) (sym same) here),
            )
        | inr ne ↦ let q = h.older_is k d (omega arith) there in (q.0, get_below older o None k (omega arith) ∙ q.1, q.2)
      ]

  pub leaving_next : IsLeavingTo points edges (n + 1) (set newest e.tail (Some n)) (older ++ o ∷ [])
  leaving_next = record {
    newest_each = length-set newest e.tail (Some n) ∙ h.newest_each;
    older_each = let len = h.older_each in omega (arith, length-append older (o ∷ []));
    newest_is = newest_next;
    older_is = older_next;
  }

pub leaving_all : (points : ℕ) (edges : List Edge) (n : ℕ) (l : Leaving) → n ≡ length edges → IsLeavingTo points edges n l.newest.items l.older.items → IsLeaving points edges l
leaving_all points edges n l all h = record {
  newest_each = h.newest_each;
  older_each = h.older_each ∙ all;
  newest_is = λ v less. subst (λ x. (o : Option ℕ) × (slice_get l.newest.items v ≡ Some o) × IsLatest edges x v o) all (h.newest_is v less);
  older_is = λ k e there. h.older_is k e (let within = slice_get_within edges k e there in omega arith) there;
}

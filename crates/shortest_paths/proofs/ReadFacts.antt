-- The costs and the last edges of the best walks, read off point by point.
use Rattle.std.proofs.Common.{◌≡◌, ℕ, zero, suc, ◌+◌, ◌<◌, ℤ, pos, List, [], ◌∷◌, ◌++◌, length, Option, Some, None, inl, inr, sym, ap, subst, ◌∙◌, arith, slice_get, ◌^◌, to_z, of_z, w64}
use Rattle.std.proofs.lemmas.Int.{ints}
use Rattle.std.proofs.lemmas.Bool.{cases_eq}
use Rattle.std.proofs.lemmas.List.{length-append, get_or_append_left}
use Rattle.std.proofs.lemmas.Option.{slice_get-get_or}
use Rattle.std.proofs.Math.Seq.{get_or-append_seam}
use Rattle.shortest_paths.specs.declared.edges.Best.{Best}
use Rattle.shortest_paths.specs.Walks.{IsWithin, number_of}
use Rattle.shortest_paths.proofs.WalkLaws.{some_same}
use Rattle.shortest_paths.specs.Search.{found}

pub read_cost : (z : ℤ) → IsWithin (2 ^ 60) z → to_z w64 (of_z w64 z) ≡ z
read_cost z h = omega (arith, ints, h.0, h.1)

pub found_below : (best : List (Option Best)) (v : ℕ) (b : Best) → found best v ≡ Some b → v < length best
found_below [] v b f = absurd (cc)
found_below (x ∷ best) zero b f = omega arith
found_below (x ∷ best) (suc v) b f = let ih = found_below best v b f in omega arith

pub get_below : {X : Type 0} (xs : List X) (x d : X) (v : ℕ) → v < length xs → slice_get (xs ++ x ∷ []) v ≡ slice_get xs v
get_below xs x d v l =
    let longer : v < length (xs ++ x ∷ []) = rw (length-append xs (x ∷ [])) (omega arith) in
    slice_get-get_or (xs ++ x ∷ []) v d longer ∙ ap Some (get_or_append_left xs (x ∷ []) d v l) ∙ sym (slice_get-get_or xs v d l)

pub get_last : {X : Type 0} (xs : List X) (x d : X) → slice_get (xs ++ x ∷ []) (length xs) ≡ Some x
get_last xs x d =
    let longer : length xs < length (xs ++ x ∷ []) = rw (length-append xs (x ∷ [])) (omega arith) in
    slice_get-get_or (xs ++ x ∷ []) (length xs) d longer ∙ ap Some (get_or-append_seam xs x [] d)

module _ (best : List (Option Best)) (a : Best) (k : ℕ) (here : found best k ≡ Some a) where
  same_best : (v : ℕ) (b : Best) → v ≡ k → found best v ≡ Some b → a ≡ b
  same_best v b same f = some_same a b (sym here ∙ subst (λ x. found best x ≡ Some b) same f)

  pub more_costs : (old new : List ℤ) (x : ℤ) → x ≡ a.cost → length old ≡ k → new ≡ old ++ x ∷ [] → ((v : ℕ) (b : Best) → v < k → found best v ≡ Some b → number_of old v ≡ b.cost) →
      (v : ℕ) (b : Best) → v < k + 1 → found best v ≡ Some b → number_of new v ≡ b.cost
  more_costs old new x is len pushed known v b l f =
      elim (cases_eq v k) [
        | inl same ↦
            ap (λ xs. number_of xs v) pushed ∙ ap (λ i. number_of (old ++ x ∷ []) i) (same ∙ sym len)
            ∙ get_or-append_seam old x [] (pos 0) ∙ is ∙ ap (λ (x : Best). x.cost) (same_best v b same f)
        | inr ne ↦ ap (λ xs. number_of xs v) pushed ∙ get_or_append_left old (x ∷ []) (pos 0) v (omega arith) ∙ known v b (omega arith) f
      ]

  pub more_lasts : (old new : List (Option ℕ)) → length old ≡ k → new ≡ old ++ a.last ∷ [] → ((v : ℕ) (b : Best) → v < k → found best v ≡ Some b → slice_get old v ≡ Some b.last) →
      (v : ℕ) (b : Best) → v < k + 1 → found best v ≡ Some b → slice_get new v ≡ Some b.last
  more_lasts old new len pushed known v b l f =
      elim (cases_eq v k) [
        | inl same ↦
            ap (λ xs. slice_get xs v) pushed ∙ ap (λ i. slice_get (old ++ a.last ∷ []) i) (same ∙ sym len)
            ∙ get_last old a.last None ∙ ap (λ (x : Best). Some x.last) (same_best v b same f)
        | inr ne ↦ ap (λ xs. slice_get xs v) pushed ∙ get_below old a.last None v (omega arith) ∙ known v b (omega arith) f
      ]

-- The arcs so far, with one more.
use Rattle.std.proofs.Common.{◌≡◌, ℕ, suc, ◌+◌, ◌<◌, List, [], ◌∷◌, ◌++◌, length, map, take, get_or, sym, ap, ◌∙◌, subst, arith, append_assoc}
use Rattle.std.proofs.Math.Seq.{take-suc}
use Rattle.std.proofs.lemmas.List.{map-append}

module _ {X Y Z : Type 0} (f : X → Z) (h : Y → Z) (old : List Y) (before : List Z) (xs : List X) (k : ℕ) (d : X) (y : Y) where
  pub one_more : k < length xs → map h old ≡ before ++ map f (take k xs) → h y ≡ f (get_or xs k d) → map h (old ++ y ∷ []) ≡ before ++ map f (take (k + 1) xs)
  one_more lt so_far here =
      let next : suc k ≡ k + 1 = omega arith in
      let front : map f (take (k + 1) xs) ≡ map f (take k xs) ++ f (get_or xs k d) ∷ [] =
      subst (λ n. map f (take n xs) ≡ map f (take k xs) ++ f (get_or xs k d) ∷ []) next (ap (map f) (take-suc xs k d lt) ∙ map-append f (take k xs) (get_or xs k d ∷ [])) in
      map-append h old (y ∷ []) ∙ (λ i. so_far i ++ here i ∷ []) ∙ append_assoc before (map f (take k xs)) (f (get_or xs k d) ∷ []) ∙ sym (ap (λ zs. before ++ zs) front)

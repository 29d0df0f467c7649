-- What passes a test in the front of a list, with one item more.
use Rattle.std.proofs.Common.{◌≡◌, ℕ, suc, ◌+◌, ◌<◌, List, [], ◌∷◌, ◌++◌, length, take, get_or, filter, ap, ◌∙◌, subst, cond, true, false, Bool, arith}
use Rattle.std.proofs.Math.Seq.{take-suc}
use Rattle.std.proofs.lemmas.List.{append-nil}
use Rattle.std.proofs.lemmas.List.Elements.{filter-append}

module _ {X : Type 0} (p : X → Bool) (xs : List X) (k : ℕ) (d : X) (lt : k < length xs) where
  with_item : filter p (take (k + 1) xs) ≡ filter p (take k xs) ++ cond (p (get_or xs k d)) (get_or xs k d ∷ []) []
  with_item =
      let next : suc k ≡ k + 1 = omega arith in
      subst (λ n. filter p (take n xs) ≡ filter p (take k xs) ++ cond (p (get_or xs k d)) (get_or xs k d ∷ []) []) next
      (ap (filter p) (take-suc xs k d lt) ∙ filter-append p (take k xs) (get_or xs k d ∷ []))

  pub passes_too : p (get_or xs k d) ≡ true → filter p (take (k + 1) xs) ≡ filter p (take k xs) ++ get_or xs k d ∷ []
  passes_too t = with_item ∙ ap (λ b. filter p (take k xs) ++ cond b (get_or xs k d ∷ []) []) t

  pub is_left_out : p (get_or xs k d) ≡ false → filter p (take (k + 1) xs) ≡ filter p (take k xs)
  is_left_out f = with_item ∙ ap (λ b. filter p (take k xs) ++ cond b (get_or xs k d ∷ []) []) f ∙ append-nil (filter p (take k xs))

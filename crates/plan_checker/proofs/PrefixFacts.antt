-- How far two lists agree.
use Rattle.std.proofs.Common.{◌≡◌, ℕ, ◌+◌, ◌<◌, ◌≤◌, List, [], ◌∷◌, length, get_or, drop, refl, ap, ◌∙◌, subst, cond, true, false, Bool, arith}
use Rattle.std.specs.List.{common_prefix_len}
use Rattle.std.proofs.lemmas.List.{drop_all}
use Rattle.std.proofs.lemmas.List.Sums.{common_prefix_len-drop_yes, common_prefix_len-drop_no}

none_after : {X Y : Type 0} (e : X → Y → Bool) (xs : List X) → common_prefix_len e xs [] ≡ 0
none_after e [] = refl
none_after e (x ∷ xs) = refl

module _ {X Y : Type 0} (e : X → Y → Bool) (xs : List X) (ys : List Y) (i : ℕ) where
  -- as far as place i they agree
  pub agrees : i + common_prefix_len e (drop i xs) (drop i ys) ≡ common_prefix_len e xs ys → (c : X) (d : Y) → i < length xs → i < length ys
      → e (get_or xs i c) (get_or ys i d) ≡ true → (i + 1) + common_prefix_len e (drop (i + 1) xs) (drop (i + 1) ys) ≡ common_prefix_len e xs ys
  agrees so_far c d lx ly t = omega (arith, common_prefix_len-drop_yes e xs ys i c d lx ly t)

  pub differs : i + common_prefix_len e (drop i xs) (drop i ys) ≡ common_prefix_len e xs ys → (c : X) (d : Y) → i < length xs → i < length ys
      → e (get_or xs i c) (get_or ys i d) ≡ false → i ≡ common_prefix_len e xs ys
  differs so_far c d lx ly f = omega (arith, common_prefix_len-drop_no e xs ys i c d lx ly f)

  pub first_ends : i + common_prefix_len e (drop i xs) (drop i ys) ≡ common_prefix_len e xs ys → length xs ≤ i → i ≡ common_prefix_len e xs ys
  first_ends so_far le = omega (arith, ap (λ zs. common_prefix_len e zs (drop i ys)) (drop_all i xs le))

  pub second_ends : i + common_prefix_len e (drop i xs) (drop i ys) ≡ common_prefix_len e xs ys → length ys ≤ i → i ≡ common_prefix_len e xs ys
  second_ends so_far le = omega (arith, ap (common_prefix_len e (drop i xs)) (drop_all i ys le) ∙ none_after e (drop i xs))

module _ {X : Type 0} (e : X → X → Bool) (same : (x y : X) → e x y ≡ true → x ≡ y) (itself : (x : X) → e x x ≡ true) where
  -- lists that agree to both of their ends are the same
  pub agree_whole : (xs ys : List X) → common_prefix_len e xs ys ≡ length xs → common_prefix_len e xs ys ≡ length ys → xs ≡ ys
  agree_whole [] [] a b = refl
  agree_whole [] (y ∷ ys) a b = absurd (omega arith)
  agree_whole (x ∷ xs) [] a b = absurd (omega arith)
  agree_whole (x ∷ xs) (y ∷ ys) a b = go (e x y) refl (agree_whole xs ys) a b
    where
      go : (t : Bool) → e x y ≡ t → (common_prefix_len e xs ys ≡ length xs → common_prefix_len e xs ys ≡ length ys → xs ≡ ys) → cond t (1 + common_prefix_len e xs ys) 0 ≡ length (x ∷ xs) → cond t (1 + common_prefix_len e xs ys) 0 ≡ length (y ∷ ys) → x ∷ xs ≡ y ∷ ys
      go true t rest a b = (ap (λ z. z ∷ xs) (same x y t)) ∙ ap (λ zs. y ∷ zs) (rest (omega arith) (omega arith))
      go false t rest a b = absurd (omega arith)

  pub same_agree : (xs ys : List X) → xs ≡ ys → common_prefix_len e xs ys ≡ length xs
  same_agree xs ys is = subst (λ zs. common_prefix_len e xs zs ≡ length xs) is (with_itself xs)
    where
      with_itself : (xs : List X) → common_prefix_len e xs xs ≡ length xs
      with_itself [] = refl
      with_itself (x ∷ xs) = let rest = with_itself xs in ap (λ t. cond t (1 + common_prefix_len e xs xs) 0) (itself x) ∙ omega arith

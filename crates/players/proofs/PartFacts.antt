-- A part of a list, and a list with a part written anew.
use Rattle.std.proofs.Common.{◌≡◌, ℕ, ◌+◌, ◌-◌, ◌*◌, ◌<◌, ◌≤◌, suc, List, ◌++◌, length, take, drop, get_or, ◌∙◌, ap, arith, inl, inr, ⊎_elim}
use Rattle.std.specs.Prelude.{◌⊎◌}
use Rattle.std.proofs.lemmas.Bool.{cases_lt}
use Rattle.std.proofs.lemmas.List.{get_or-take, get_or-drop, get_or_append_left, get_or-append_right, length-take, length-drop}
use Rattle.std.proofs.Math.Nat.{suc-mul, mul-le-mul_right}
use borrow.Rule.Slice.PartMut.{put_mid, post_of}

-- ---- `&xs[a..e]`
pub slice_len : {X : Type 0} (a e : ℕ) (xs : List X) → e ≤ length xs → length (take (e - a) (drop a xs)) ≡ e - a
slice_len a e xs le = length-take (e - a) (drop a xs) ∙ (let q = length-drop a xs in omega (arith, q))

pub slice_at : {X : Type 0} (a e : ℕ) (xs : List X) (i : ℕ) (d : X) → i < e - a → get_or (take (e - a) (drop a xs)) i d ≡ get_or xs (a + i) d
slice_at a e xs i d lt = get_or-take (e - a) (drop a xs) i d lt ∙ get_or-drop a xs i d

-- ---- `xs[a..a + k]` written
pub put_before : {X : Type 0} (a k : ℕ) (xs ys : List X) (i : ℕ) (d : X) → i < a → a ≤ length xs → get_or (put_mid a k xs ys) i d ≡ get_or xs i d
put_before a k xs ys i d lt le =
    get_or_append_left (take a xs) (ys ++ post_of a k xs) d i (let e = length-take a xs in omega (arith, e)) ∙ get_or-take a xs i d lt

pub put_at : {X : Type 0} (a k : ℕ) (xs ys : List X) (i : ℕ) (d : X) → i < length ys → a ≤ length xs → get_or (put_mid a k xs ys) (a + i) d ≡ get_or ys i d
put_at a k xs ys i d lt le =
    let e : length (take a xs) ≡ a = length-take a xs ∙ omega arith in
    get_or-append_right (take a xs) (ys ++ post_of a k xs) a (a + i) d e (omega arith)
    ∙ (ap (λ z. get_or (ys ++ post_of a k xs) z d) (omega arith) ∙ get_or_append_left ys (post_of a k xs) d i lt)

pub put_after : {X : Type 0} (a k : ℕ) (xs ys : List X) (i : ℕ) (d : X) → length ys ≡ k → a + k ≤ i → a ≤ length xs → get_or (put_mid a k xs ys) i d ≡ get_or xs i d
put_after a k xs ys i d ly le la =
    let e : length (take a xs) ≡ a = length-take a xs ∙ omega arith in
    get_or-append_right (take a xs) (ys ++ post_of a k xs) a i d e (omega arith)
    ∙ (get_or-append_right ys (post_of a k xs) k (i - a) d ly (omega arith)
    ∙ (get_or-drop k (drop a xs) (i - a - k) d ∙ (get_or-drop a xs (k + (i - a - k)) d ∙ ap (λ z. get_or xs z d) (omega arith))))

pub put_rest : {X : Type 0} (a k : ℕ) (xs ys : List X) (i : ℕ) (d : X) → length ys ≡ k → (i < a) ⊎ (a + k ≤ i) → a ≤ length xs → get_or (put_mid a k xs ys) i d ≡ get_or xs i d
put_rest a k xs ys i d ly o la = ⊎_elim (λ lt. put_before a k xs ys i d lt la) (λ le. put_after a k xs ys i d ly le la) o

-- ---- rows
-- places of two rows
pub row_apart : (d c m t : ℕ) → t < m → (d ≡ c → ⊥) → (d * m + t < c * m) ⊎ (c * m + m ≤ d * m + t)
row_apart d c m t lt ne =
    ⊎_elim
    (λ l. let le : suc d * m ≤ c * m = mul-le-mul_right m l in let e = suc-mul d m in inl (omega arith))
    (λ l. let le : suc c * m ≤ d * m = mul-le-mul_right m (omega arith) in let e = suc-mul c m in inr (omega arith))
    (cases_lt d c)

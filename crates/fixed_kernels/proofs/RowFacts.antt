-- The last samples of a channel that a row of samples comes into, the oldest first.
use Rattle.std.proofs.Common.{◌≡◌, ℕ, zero, suc, ◌+◌, ◌-◌, ◌*◌, ◌/◌, ◌%◌, min, ◌<◌, ◌≤◌, List, [], ◌∷◌, ◌++◌, length, take, drop, replicate, reverse, get_or, ℤ, pos, refl, sym, ap, ◌∙◌, subst, arith, add-one, ⊎_elim, inl, inr}
use Rattle.std.specs.Prelude.{◌+ℤ◌, ◌*ℤ◌, ◌⊎◌}
use Rattle.std.proofs.lemmas.Bool.{cases_lt}
use Rattle.std.proofs.lemmas.Slice.{between-put_mid, drop-put_mid, take-put_mid, take-put_mid_below}
use borrow.Rule.Slice.PartMut.{put_mid}
use lib.IntN.{+ℤ_idr, +ℤ_comm}
use Rattle.std.proofs.lemmas.List.{length-take-le, get_or_append_left, get_or-append_right, take-take, take_at, take_all, take_more, take-append-drop, drop_at, drop-append-le, reverse-append, reverse-reverse, length-reverse, length-append, length-take, length-drop, get_or-take, get_or-drop, get_or-reverse, append_assoc, drop-drop, drop-take}
use Rattle.std.proofs.lemmas.List.FromFn.{get_or-map-range_with_len, fill_by_all, length-map-range_with_len}
use Rattle.graph_model.specs.Filters.{products}
use Rattle.graph_model.specs.Histories.{History, ago, channel, frame_in, window}
use Rattle.graph_model.specs.Kept.{windows}
use Rattle.graph_model.specs.Rounding.{rounded}
use Rattle.graph_model.specs.LimiterLaws.{get_or-padded, length-padded}
use Rattle.graph_model.specs.Blocks.{so_far}
use Rattle.graph_model.proofs.BlockLaws.{row_within}
use Rattle.fixed_kernels.specs.Rows.{filtered_at, kept_after, kept_rows}
use Rattle.fixed_kernels.proofs.SumLaws.{products-append}
use Rattle.fixed_kernels.proofs.WindowLaws.{products-take, window-cons}

pub length-so_far : (xs : List ℤ) (t : ℕ) → length (so_far xs t) ≡ t
length-so_far xs zero = refl
length-so_far xs (suc t) = ap suc (length-so_far xs t)

pub reverse-so_far : (xs : List ℤ) (t : ℕ) → t ≤ length xs → reverse (so_far xs t) ≡ take t xs
reverse-so_far xs zero le = refl
reverse-so_far xs (suc t) le =
    reverse-append (get_or xs t (pos 0) ∷ []) (so_far xs t)
    ∙ ap (λ zs. zs ++ get_or xs t (pos 0) ∷ []) (reverse-so_far xs t (omega arith))
    ∙ sym (take_more xs t (pos 0) (omega arith))
    ∙ ap (λ n. take n xs) (add-one t)

take-cons_take : (d : ℕ) (x : ℤ) (xs : List ℤ) → take d (x ∷ take d xs) ≡ take d (x ∷ xs)
take-cons_take zero x xs = refl
take-cons_take (suc d) x xs = ap (λ zs. x ∷ zs) (take-take d (suc d) xs (omega arith))

pub window-append : (d : ℕ) (a p : List ℤ) → window d (a ++ p) ≡ take d (a ++ window d p)
window-append d [] p = sym (take-take d d (p ++ replicate d (pos 0)) (omega arith))
window-append d (x ∷ a) p =
    window-cons d x (a ++ p) ∙ ap (λ zs. take d (x ∷ zs)) (window-append d a p) ∙ take-cons_take d x (a ++ window d p)

drop-reverse : (a b : List ℤ) (n : ℕ) → length b ≡ n → drop n (reverse (a ++ b)) ≡ reverse a
drop-reverse a b n e = ap (drop n) (reverse-append a b) ∙ drop_at (reverse b) (reverse a) n (length-reverse b ∙ e)

-- what is kept when the first t samples of the row have come
pub kept_at : (d : ℕ) (p row : List ℤ) (t : ℕ) → t ≤ length row
    → reverse (window d (so_far row t ++ p)) ≡ take d (drop t (reverse (window d p) ++ row))
kept_at d p row t le =
    let s : List ℤ = so_far row t in
    let w : List ℤ = window d p in
    let size : length (window d p) ≡ d = length-padded d (pos 0) p in
    let both : length (so_far row t ++ window d p) ≡ t + d = omega (arith, length-append (so_far row t) (window d p), length-so_far row t, size) in
    let parted : reverse (so_far row t ++ window d p) ≡ reverse (window d p) ++ take t row
    = reverse-append (so_far row t) (window d p) ∙ ap (λ zs. reverse (window d p) ++ zs) (reverse-so_far row t le) in
    let whole : take d (so_far row t ++ window d p) ++ drop d (so_far row t ++ window d p) ≡ so_far row t ++ window d p
    = take-append-drop d (so_far row t ++ window d p) in
    let cut : drop t (reverse (window d p) ++ take t row) ≡ reverse (take d (so_far row t ++ window d p))
    = ap (drop t) (sym parted) ∙ ap (λ zs. drop t (reverse zs)) (sym whole)
    ∙ drop-reverse (take d (so_far row t ++ window d p)) (drop d (so_far row t ++ window d p)) t
    (omega (arith, length-drop d (so_far row t ++ window d p), both)) in
    let old : length (reverse (window d p)) ≡ d = length-reverse (window d p) ∙ size in
    let front : length (reverse (window d p) ++ take t row) ≡ d + t
    = omega (arith, length-append (reverse (window d p)) (take t row), old, length-take t row, le) in
    let rest : drop t (reverse (window d p) ++ row) ≡ drop t (reverse (window d p) ++ take t row) ++ drop t row
    = ap (λ zs. drop t (reverse (window d p) ++ zs)) (sym (take-append-drop t row))
    ∙ ap (drop t) (sym (append_assoc (reverse (window d p)) (take t row) (drop t row)))
    ∙ drop-append-le t (reverse (window d p) ++ take t row) (drop t row) (omega (arith, front)) in
    ap reverse (window-append d (so_far row t) p)
    ∙ sym cut
    ∙ sym (take_at (drop t (reverse (window d p) ++ take t row)) (drop t row) d
    (omega (arith, length-drop t (reverse (window d p) ++ take t row), front)))
    ∙ ap (take d) (sym rest)

-- and when the whole row has
pub kept_all : (d : ℕ) (p row : List ℤ) (n : ℕ) → length row ≡ n
    → reverse (window d (so_far row n ++ p)) ≡ drop n (reverse (window d p) ++ row)
kept_all d p row n e =
    kept_at d p row n (omega (arith, e))
    ∙ take_all d (drop n (reverse (window d p) ++ row))
    (omega (arith, length-drop n (reverse (window d p) ++ row), length-append (reverse (window d p)) row, length-reverse (window d p), length-padded d (pos 0) p, e))

-- the sample that leaves when sample t comes
pub leaves_at : (d : ℕ) (p row : List ℤ) (t : ℕ) → t < length row
    → get_or (reverse (window d p) ++ row) t (pos 0) ≡ ago (so_far row (suc t) ++ p) d
leaves_at zero p row t lt = refl
leaves_at (suc e) p row t lt =
    let q : List ℤ = so_far row t ++ p in
    let size : length (window (suc e) (so_far row t ++ p)) ≡ suc e = length-padded (suc e) (pos 0) (so_far row t ++ p) in
    let same : t + 0 ≡ t = omega arith in
    let last : length (window (suc e) (so_far row t ++ p)) - 1 - 0 ≡ e = omega (arith, size) in
    ap (λ k. get_or (reverse (window (suc e) p) ++ row) k (pos 0)) (sym same)
    ∙ sym (get_or-drop t (reverse (window (suc e) p) ++ row) 0 (pos 0))
    ∙ sym (get_or-take (suc e) (drop t (reverse (window (suc e) p) ++ row)) 0 (pos 0) (omega arith))
    ∙ ap (λ zs. get_or zs 0 (pos 0)) (sym (kept_at (suc e) p row t (omega arith)))
    ∙ get_or-reverse (window (suc e) (so_far row t ++ p)) 0 (pos 0) (omega (arith, size))
    ∙ ap (λ k. get_or (window (suc e) (so_far row t ++ p)) k (pos 0)) last
    ∙ get_or-padded (suc e) (pos 0) (so_far row t ++ p) e (omega arith)

-- both lists the other way round
pub products-reverse : (ts xs : List ℤ) → length ts ≡ length xs → products (reverse ts) (reverse xs) ≡ products ts xs
products-reverse [] [] e = refl
products-reverse [] (x ∷ xs) e = absurd (omega (arith, e))
products-reverse (t ∷ ts) [] e = absurd (omega (arith, e))
products-reverse (t ∷ ts) (x ∷ xs) e =
    let rest : products (reverse ts) (reverse xs) ≡ products ts xs = products-reverse ts xs (omega (arith, e)) in
    let n : length (reverse ts) ≡ length (reverse xs) = length-reverse ts ∙ omega (arith, e, length-reverse xs) in
    (λ i. products (reverse-append (t ∷ []) ts i) (reverse-append (x ∷ []) xs i))
    ∙ products-append (reverse ts ++ t ∷ []) (reverse xs) (x ∷ [])
    ∙ (λ i. products (take_at (reverse ts) (t ∷ []) (length (reverse xs)) n i) (reverse xs) +ℤ products (drop_at (reverse ts) (t ∷ []) (length (reverse xs)) n i) (x ∷ []))
    ∙ (λ i. rest i +ℤ +ℤ_idr (t *ℤ x) i)
    ∙ +ℤ_comm (products ts xs) (t *ℤ x)

-- ---- all rows
pub row_is : (m n : ℕ) (past : List ℤ) (h : History) → kept_rows m n past ≡ windows m n h → (c : ℕ) → c < m
    → frame_in n past c ≡ reverse (window n (channel c h))
row_is m n past h same c lc =
    sym (reverse-reverse (frame_in n past c))
    ∙ ap reverse
    (sym (get_or-map-range_with_len (λ d. reverse (frame_in n past d)) 0 m c c [] lc (omega arith))
    ∙ ap (λ (rows : List (List ℤ)). get_or rows c []) same
    ∙ get_or-map-range_with_len (λ d. window n (channel d h)) 0 m c c [] lc (omega arith))

pub rows_are : (m n : ℕ) (past : List ℤ) (h : History) → ((c : ℕ) → c < m → frame_in n past c ≡ reverse (window n (channel c h)))
    → kept_rows m n past ≡ windows m n h
rows_are m n past h each =
    fill_by_all (λ d. window n (channel d h)) (kept_rows m n past) m [] (length-map-range_with_len (λ d. reverse (frame_in n past d)) 0 m)
    (λ c lc.
    get_or-map-range_with_len (λ d. reverse (frame_in n past d)) 0 m c c [] lc (omega arith)
    ∙ ap reverse (each c lc) ∙ reverse-reverse (window n (channel c h)))

-- ---- a row that is written
pub frame_put_same : (n c : ℕ) (xs ys : List ℤ) → c * n + n ≤ length xs → length ys ≡ n
    → frame_in n (put_mid (c * n) (c * n + n - c * n) xs ys) c ≡ ys
frame_put_same n c xs ys fits size =
    let e : c * n + n - c * n ≡ n = omega arith in
    ap (λ k. take k (drop (c * n) (put_mid (c * n) (c * n + n - c * n) xs ys))) (sym e)
    ∙ between-put_mid (c * n) (c * n + n - c * n) xs ys (c * n + n) (omega arith) (size ∙ sym e)

pub frame_put_other : (n c k : ℕ) (xs ys : List ℤ) → c * n + n ≤ length xs → length ys ≡ n → (k < c) ⊎ (c < k)
    → frame_in n (put_mid (c * n) (c * n + n - c * n) xs ys) k ≡ frame_in n xs k
frame_put_other n c k xs ys fits size (inl lt) =
    let row = row_within k c n lt in
    sym (drop-take (k * n) n (put_mid (c * n) (c * n + n - c * n) xs ys))
    ∙ ap (drop (k * n)) (take-put_mid_below (c * n) (c * n + n - c * n) xs ys (k * n + n) row (omega arith))
    ∙ drop-take (k * n) n xs
frame_put_other n c k xs ys fits size (inr lt) =
    let row = row_within c k n lt in
    ap (take n) (drop-put_mid (c * n) (c * n + n - c * n) xs ys (k * n) (omega arith) (omega arith) (omega (arith, size)))

-- what holds of the rows below c, of the row c that is written, and so of the rows below c + 1
pub rows_more : (n c : ℕ) (P : ℕ → List ℤ → Type 0) (xs ys : List ℤ) → c * n + n ≤ length xs → length ys ≡ n
    → ((k : ℕ) → k < c → P k (frame_in n xs k)) → P c ys
    → (k : ℕ) → k < c + 1 → P k (frame_in n (put_mid (c * n) (c * n + n - c * n) xs ys) k)
rows_more n c P xs ys fits size below here k lt =
    ⊎_elim
    (λ (less : k < c). subst (P k) (sym (frame_put_other n c k xs ys fits size (inl less))) (below k less))
    (λ (le : c ≤ k).
    let same : k ≡ c = omega arith in
    subst (λ j. P j (frame_in n (put_mid (c * n) (c * n + n - c * n) xs ys) j)) (sym same)
    (subst (P c) (sym (frame_put_same n c xs ys fits size)) here))
    (cases_lt k c)

pub rows_left : (n c : ℕ) (P : ℕ → List ℤ → Type 0) (xs ys : List ℤ) → c * n + n ≤ length xs → length ys ≡ n
    → ((k : ℕ) → c ≤ k → P k (frame_in n xs k))
    → (k : ℕ) → c + 1 ≤ k → P k (frame_in n (put_mid (c * n) (c * n + n - c * n) xs ys) k)
rows_left n c P xs ys fits size above k le =
    subst (P k) (sym (frame_put_other n c k xs ys fits size (inr (omega arith)))) (above k (omega arith))

-- the room for a row that stands before a block
pub line_is : (a b line : List ℤ) (d n : ℕ) → length a ≡ d → length b ≡ n
    → take (d + n) (put_mid d (d + n - d) (a ++ drop d line) b) ≡ a ++ b
line_is a b line d n la lb =
    take-put_mid d (d + n - d) (a ++ drop d line) b (d + n) (ap (λ k. d + k) (sym lb)) (omega (arith, la, length-append a (drop d line)))
    ∙ ap (λ zs. zs ++ b) (take_at a (drop d line) d la)

-- `&xs[c * n..c * n + n]`
pub slice_row : (n c : ℕ) (xs : List ℤ) → take (c * n + n - c * n) (drop (c * n) xs) ≡ frame_in n xs c
slice_row n c xs = let e : c * n + n - c * n ≡ n = omega arith in ap (λ k. take k (drop (c * n) xs)) e

-- a part of a line gives the same sums
pub filtered_part : (ts : List ℤ) (q : ℕ) (line : List ℤ) (a n t : ℕ) → suc t + length ts ≤ n → filtered_at ts q (take n (drop a line)) t ≡ filtered_at ts q line (a + t)
filtered_part ts q line a n t le =
    let cut : take (length ts) (drop (suc t) (take n (drop a line))) ≡ take (length ts) (drop (suc t) (drop a line)) =
    ap (λ m. take (length ts) (drop (suc t) (take m (drop a line)))) (let e : n ≡ suc t + (n - suc t) = omega arith in e)
    ∙ ap (take (length ts)) (drop-take (suc t) (n - suc t) (drop a line))
    ∙ take-take (length ts) (n - suc t) (drop (suc t) (drop a line)) (omega arith) in
    let place : a + suc t ≡ suc (a + t) = omega arith in
    ap (λ zs. rounded (products ts zs) q) (cut ∙ ap (take (length ts)) (drop-drop (suc t) a line) ∙ ap (λ m. take (length ts) (drop m line)) place)

-- a sum from j on, of a line whose first sample is left out
pub filtered_sum : (ts : List ℤ) (q : ℕ) (line : List ℤ) (j : ℕ) → rounded (products ts (drop j (drop 1 line))) q ≡ filtered_at ts q line j
filtered_sum ts q line j =
    let place : 1 + j ≡ suc j = omega arith in
    ap (λ s. rounded s q)
    (ap (products ts) (drop-drop j 1 line ∙ ap (λ m. drop m line) place) ∙ sym (products-take ts (drop (suc j) line) (length ts) (omega arith)))

-- ---- a row part by part
-- what is kept, and the next n samples
part_line : (past row : List ℤ) (a n : ℕ) → kept_after past row a ++ take n (drop a row) ≡ take (length past + n) (drop a (past ++ row))
part_line past row a n =
    let d : ℕ = length past in
    let xs : List ℤ = drop a (past ++ row) in
    let after : drop (length past) (drop a (past ++ row)) ≡ drop a row
    = drop-drop (length past) a (past ++ row) ∙ ap (λ k. drop k (past ++ row)) (omega arith) ∙ sym (drop-drop a (length past) (past ++ row))
    ∙ ap (drop a) (drop_at past row (length past) refl) in
    let front : take (length past) (take (length past + n) (drop a (past ++ row))) ≡ take (length past) (drop a (past ++ row))
    = take-take (length past) (length past + n) (drop a (past ++ row)) (omega arith) in
    let back : drop (length past) (take (length past + n) (drop a (past ++ row))) ≡ take n (drop a row)
    = drop-take (length past) n (drop a (past ++ row)) ∙ ap (take n) after in
    (λ i. sym front i ++ sym back i) ∙ take-append-drop (length past) (take (length past + n) (drop a (past ++ row)))

pub kept_more : (past row : List ℤ) (a n : ℕ) → drop n (kept_after past row a ++ take n (drop a row)) ≡ kept_after past row (a + n)
kept_more past row a n =
    ap (drop n) (part_line past row a n)
    ∙ ap (λ m. drop n (take m (drop a (past ++ row)))) (let e : length past + n ≡ n + length past = omega arith in e)
    ∙ drop-take n (length past) (drop a (past ++ row))
    ∙ ap (take (length past)) (drop-drop n a (past ++ row))

pub kept_last : (past row : List ℤ) (t : ℕ) → t ≡ length row → kept_after past row t ≡ drop (length row) (past ++ row)
kept_last past row t e =
    ap (kept_after past row) e
    ∙ take_all (length past) (drop (length row) (past ++ row)) (omega (arith, length-drop (length row) (past ++ row), length-append past row))

pub part_value : (ts : List ℤ) (q : ℕ) (past row : List ℤ) (a n t : ℕ) → length past ≡ length ts → t < n
    → filtered_at ts q (kept_after past row a ++ take n (drop a row)) t ≡ filtered_at ts q (past ++ row) (a + t)
part_value ts q past row a n t e lt =
    ap (λ zs. filtered_at ts q zs t) (part_line past row a n) ∙ filtered_part ts q (past ++ row) a (length past + n) t (omega (arith, e))

-- the first a samples as they were, and n more
pub put_more : (a n : ℕ) (V : ℕ → ℤ) (xs ys : List ℤ) → a + n ≤ length xs → length ys ≡ n
    → ((t : ℕ) → t < a → get_or xs t (pos 0) ≡ V t) → ((t : ℕ) → t < n → get_or ys t (pos 0) ≡ V (a + t))
    → (t : ℕ) → t < a + n → get_or (put_mid a n xs ys) t (pos 0) ≡ V t
put_more a n V xs ys fits size below here t lt =
    let front : length (take a xs) ≡ a = length-take-le a xs (omega arith) in
    sym (get_or-take (a + n) (put_mid a n xs ys) t (pos 0) lt)
    ∙ ap (λ zs. get_or zs t (pos 0)) (take-put_mid a n xs ys (a + n) (omega (arith, size)) (omega arith))
    ∙ ⊎_elim
    (λ (less : t < a).
    get_or_append_left (take a xs) ys (pos 0) t (omega (arith, front)) ∙ get_or-take a xs t (pos 0) less ∙ below t less)
    (λ (le : a ≤ t).
    get_or-append_right (take a xs) ys a t (pos 0) front le
    ∙ here (t - a) (omega arith)
    ∙ ap V (let e : a + (t - a) ≡ t = omega arith in e))
    (cases_lt t a)

pub kept_none : (past row : List ℤ) (t : ℕ) → t ≡ 0 → past ≡ kept_after past row t
kept_none past row t e = sym (ap (kept_after past row) e ∙ take_at past row (length past) refl)

-- part p of a row of n samples, which ends before sample e
pub record IsRowPart (n p e : ℕ) : Type 0 where
  pub start : min (p * 64) n ≡ p * 64
  pub inside : (p * 64 < e) × (e ≤ n)
  pub next : p * 64 + (e - p * 64) ≡ min ((p + 1) * 64) n

pub is_row_part : (n p e : ℕ) → p < n / 64 + min 1 (n % 64) → e ≡ min (p * 64 + 64) n → IsRowPart n p e
is_row_part n p e early is = record {
  start = omega (arith, early);
  inside = (omega (arith, early, is), omega (arith, early, is));
  next = omega (arith, early, is);
}

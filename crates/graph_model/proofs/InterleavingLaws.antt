-- Interleaved samples of histories.
use Rattle.std.proofs.Common.{◌≡◌, ℕ, zero, suc, ◌+◌, ◌-◌, ◌*◌, ◌/◌, ◌%◌, ◌<◌, ◌≤◌, List, [], ◌∷◌, ◌++◌, length, map, get_or, ℤ, pos, sym, ap, ◌∙◌, subst, arith}
use Rattle.std.specs.List.{AllByRecursion, range_with_len}
use Rattle.std.proofs.lemmas.List.{length-append, get_or_append_left, get_or-append-add}
use Rattle.std.proofs.lemmas.List.FromFn.{length-map-range_with_len, fill_by_all}
use Rattle.std.proofs.lemmas.Nat.{div-add-mod'}
use Rattle.std.proofs.Math.Nat.{suc-mul, mul-le-mul_right, mod-lt, div-lt_iff_lt-mul}
use Rattle.graph_model.specs.Histories.{Frame, History, sample, history_of, before, frame_in, frames_of, interleaved, each}
use Rattle.graph_model.proofs.HistoryLaws.{length-history_of, sample-history_of}
use Rattle.graph_model.proofs.BlockLaws.{whole, length-frame_in}
use Rattle.graph_model.proofs.CommonFacts.{by_lt}

-- every frame has m samples
abbrev pub AreWide : ℕ → History → Type 0
AreWide m h = AllByRecursion (λ f. length f ≡ m) h

pub wide_rows : (m : ℕ) (row : ℕ → Frame) (a n : ℕ) → ((k : ℕ) → length (row k) ≡ m) → AreWide m (map row (range_with_len a n))
wide_rows m row a zero w = tt
wide_rows m row a (suc n) w = (w a, wide_rows m row (a + 1) n w)

pub wide-history_of : (n m : ℕ) (f : ℕ → ℕ → ℤ) → AreWide m (history_of n m f)
wide-history_of n m f = wide_rows m (λ k. map (λ c. f c k) (range_with_len 0 m)) 0 n (λ k. length-map-range_with_len (λ c. f c k) 0 m)

pub wide-each : (m : ℕ) (rule : History → Frame) → ((h : History) → length (rule h) ≡ m) → (h : History) → AreWide m (each rule h)
wide-each m rule w [] = tt
wide-each m rule w (f ∷ h) = (w (f ∷ h), wide-each m rule w h)

-- sample c of frame t stands before the end of n frames
pub in_row : (t n c m : ℕ) → t < n → c < m → t * m + c < n * m
in_row t n c m lt lc = let e : suc t * m ≡ t * m + m = suc-mul t m in let l : suc t * m ≤ n * m = mul-le-mul_right m lt in omega arith

pub length-interleaved : (m : ℕ) (h : History) → AreWide m h → length (interleaved h) ≡ length h * m
length-interleaved m [] w = omega arith
length-interleaved m (f ∷ h) w =
    let rest = length-interleaved m h w.1 in
    let here = w.0 in
    omega (arith, length-append (interleaved h) f, suc-mul (length h) m)

-- frame t came in `length h - 1 - t` frames ago
pub get_or-interleaved : (m : ℕ) (h : History) → AreWide m h → (t c : ℕ) → t < length h → c < m
    → get_or (interleaved h) (t * m + c) (pos 0) ≡ sample h c (length h - 1 - t)
get_or-interleaved m [] w t c lt lc = absurd (omega arith)
get_or-interleaved m (f ∷ h) w t c lt lc =
    let long : length (interleaved h) ≡ length h * m = length-interleaved m h w.1 in
    by_lt t (length h)
    (λ early.
    let within : t * m + c < length (interleaved h) = subst (λ n. t * m + c < n) (sym long) (in_row t (length h) c m early lc) in
    let place : suc (length h - 1 - t) ≡ length (f ∷ h) - 1 - t = omega arith in
    get_or_append_left (interleaved h) f (pos 0) (t * m + c) within
    ∙ get_or-interleaved m h w.1 t c early lc
    ∙ ap (λ k. sample (f ∷ h) c k) place)
    (λ late.
    let last : t ≡ length h = omega arith in
    let place : 0 ≡ length (f ∷ h) - 1 - t = omega arith in
    ap (λ k. get_or (interleaved h ++ f) (k * m + c) (pos 0)) last
    ∙ ap (λ k. get_or (interleaved h ++ f) (k + c) (pos 0)) (sym long)
    ∙ get_or-append-add (interleaved h) f c (pos 0)
    ∙ ap (λ k. sample (f ∷ h) c k) place)

-- ---- samples as they came, and their frames
wide-before : (m n : ℕ) (xs : List ℤ) → length xs ≡ n * m → (k : ℕ) → k ≤ n → AreWide m (before (frame_in m xs) k)
wide-before m n xs e zero le = tt
wide-before m n xs e (suc k) le = (length-frame_in m n xs k e (omega arith), wide-before m n xs e k (omega arith))

pub wide-frames_of : (m n : ℕ) (xs : List ℤ) → 0 < m → length xs ≡ n * m → AreWide m (frames_of m xs)
wide-frames_of m n xs some e =
    subst (λ k. AreWide m (before (frame_in m xs) k)) (sym (whole m n (length xs) some e)) (wide-before m n xs e n (omega arith))

-- ---- samples of a function, in the order in which they stand
abbrev pub in_turn : ℕ → ℕ → (ℕ → ℕ → ℤ) → ℕ → ℤ
in_turn n m f k = f (k % m) (n - 1 - k / m)

pub some_width : (n m k : ℕ) → k < n * m → 0 < m
some_width n zero k l = absurd (omega arith)
some_width n (suc m) k l = omega arith

-- the frame in which place k stands
pub in_frame : (n m k : ℕ) → k < n * m → (k / m < n) × (k % m < m)
in_frame n m k l = let z : 0 < m = some_width n m k l in ((div-lt_iff_lt-mul z).1 l, mod-lt k z)

turn : (n m : ℕ) (f : ℕ → ℕ → ℤ) (k : ℕ) → k < n * m → get_or (interleaved (history_of n m f)) k (pos 0) ≡ in_turn n m f k
turn n m f k l =
    let e : k / m * m + k % m ≡ k = div-add-mod' k m in
    let at = in_frame n m k l in
    let long = length-history_of n m f in
    let early : k / m < length (history_of n m f) = omega (arith, at.0) in
    ap (λ i. get_or (interleaved (history_of n m f)) i (pos 0)) (sym e)
    ∙ get_or-interleaved m (history_of n m f) (wide-history_of n m f) (k / m) (k % m) early at.1
    ∙ ap (λ i. sample (history_of n m f) (k % m) (i - 1 - k / m)) long
    ∙ sample-history_of n m f (k % m) (n - 1 - k / m) (omega (arith, at.0)) at.1

-- a history of a function, interleaved
pub interleaved-history_of : (n m : ℕ) (f : ℕ → ℕ → ℤ) → interleaved (history_of n m f) ≡ map (in_turn n m f) (range_with_len 0 (n * m))
interleaved-history_of n m f =
    fill_by_all (in_turn n m f) (interleaved (history_of n m f)) (n * m) (pos 0)
    (length-interleaved m (history_of n m f) (wide-history_of n m f) ∙ ap (λ k. k * m) (length-history_of n m f))
    (turn n m f)

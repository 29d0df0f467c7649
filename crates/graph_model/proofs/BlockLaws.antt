-- Interleaved samples and the history of their frames.
use Rattle.std.proofs.Common.{◌≡◌, ℕ, zero, suc, ◌+◌, ◌*◌, ◌/◌, ◌<◌, ◌≤◌, List, [], ◌∷◌, ◌++◌, length, take, drop, get_or, ℤ, pos, refl, sym, ap, ◌∙◌, subst, arith}
use Rattle.std.specs.List.{All}
use Rattle.std.proofs.lemmas.List.{get_or-drop, get_or-take, length-drop, length-take, length-append}
use Rattle.std.proofs.lemmas.List.Elements.{All-head, All-tail}
use Rattle.std.proofs.lemmas.Nat.{div-mul-add}
use Rattle.std.proofs.Math.Nat.{add-mul, suc-mul, mul-le-mul_right}
use Rattle.graph_model.specs.Histories.{Frame, History, before, frame_in, frames_of, interleaved}
use Rattle.graph_model.specs.Laws.{FramesAreInterleaved, InterleavedAreFrames, BlocksJoin}

pub length-before : (x : ℕ → Frame) (n : ℕ) → length (before x n) ≡ n
length-before x zero = refl
length-before x (suc n) = ap suc (length-before x n)

drop_past : {X : Type 0} (a b : List X) (j : ℕ) → drop (length a + j) (a ++ b) ≡ drop j b
drop_past [] b j = let e : 0 + j ≡ j = omega arith in ap (λ z. drop z b) e
drop_past (x ∷ a) b j = let e : length (x ∷ a) + j ≡ suc (length a + j) = omega arith in ap (λ z. drop z (x ∷ (a ++ b))) e ∙ drop_past a b j

drop_within : {X : Type 0} (a b : List X) (j : ℕ) → j ≤ length a → drop j (a ++ b) ≡ drop j a ++ b
drop_within a b zero le = refl
drop_within [] b (suc j) le = absurd (omega arith)
drop_within (x ∷ a) b (suc j) le = drop_within a b j (omega arith)

take_within : {X : Type 0} (a b : List X) (j : ℕ) → j ≤ length a → take j (a ++ b) ≡ take j a
take_within a b zero le = refl
take_within [] b (suc j) le = absurd (omega arith)
take_within (x ∷ a) b (suc j) le = let rest : take j (a ++ b) ≡ take j a = take_within a b j (omega arith) in ap (λ xs. x ∷ xs) rest

-- ---- before
pub before-same : (x y : ℕ → Frame) (n : ℕ) → ((t : ℕ) → t < n → x t ≡ y t) → before x n ≡ before y n
before-same x y zero e = refl
before-same x y (suc n) e = let first : x n ≡ y n = e n (omega arith) in let rest : before x n ≡ before y n = before-same x y n (λ t lt. e t (omega arith)) in cc

-- the first frames, and those after them
pub before-append : (x : ℕ → Frame) (n k : ℕ) → before x (n + k) ≡ before (λ t. x (n + t)) k ++ before x n
before-append x n zero = let e : n + 0 ≡ n = omega arith in ap (before x) e
before-append x n (suc k) = let e : n + suc k ≡ suc (n + k) = omega arith in ap (before x) e ∙ ap (λ h. x (n + k) ∷ h) (before-append x n k)

-- ---- a block
pub whole : (m n l : ℕ) → 0 < m → l ≡ n * m → l / m ≡ n
whole m n l some e = let plain : l ≡ n * m + 0 = omega (arith, e) in ap (λ z. z / m) plain ∙ div-mul-add n m 0 some

pub length-frames_of : (m n : ℕ) (samples : List ℤ) → 0 < m → length samples ≡ n * m → length (frames_of m samples) ≡ n
length-frames_of m n samples some e = length-before (frame_in m samples) (length samples / m) ∙ whole m n (length samples) some e

pub row_within : (k n m : ℕ) → k < n → k * m + m ≤ n * m
row_within k n m lt = let e : k * m + m ≡ suc k * m = omega (arith, suc-mul k m) in subst (λ z. z ≤ n * m) (sym e) (mul-le-mul_right m lt)

-- frame t of a block has its m samples
pub length-frame_in : (m n : ℕ) (samples : List ℤ) (t : ℕ) → length samples ≡ n * m → t < n → length (frame_in m samples t) ≡ m
length-frame_in m n samples t e lt = omega (arith, length-take m (drop (t * m) samples), length-drop (t * m) samples, e, row_within t n m lt)

pub sample_in : (m : ℕ) (samples : List ℤ) (t c : ℕ) → c < m → get_or (frame_in m samples t) c (pos 0) ≡ get_or samples (t * m + c) (pos 0)
sample_in m samples t c lt = get_or-take m (drop (t * m) samples) c (pos 0) lt ∙ get_or-drop (t * m) samples c (pos 0)

-- two blocks, one after the other
pub frames_of-append : (m n k : ℕ) (a b : List ℤ) → 0 < m → length a ≡ n * m → length b ≡ k * m → frames_of m (a ++ b) ≡ frames_of m b ++ frames_of m a
frames_of-append m n k a b some la lb =
    let all : length (a ++ b) ≡ (n + k) * m = length-append a b ∙ ap (λ z. z + length b) la ∙ ap (λ z. n * m + z) lb ∙ sym (add-mul n k m) in
    ap (before (frame_in m (a ++ b))) (whole m (n + k) (length (a ++ b)) some all)
    ∙ before-append (frame_in m (a ++ b)) n k
    ∙ ap (λ h. h ++ before (frame_in m (a ++ b)) n)
    (before-same (λ t. frame_in m (a ++ b) (n + t)) (frame_in m b) k (λ t lt.
    let place : (n + t) * m ≡ length a + t * m = add-mul n t m ∙ ap (λ z. z + t * m) (sym la) in
    ap (λ z. take m (drop z (a ++ b))) place ∙ ap (take m) (drop_past a b (t * m)))
    ∙ ap (before (frame_in m b)) (sym (whole m k (length b) some lb)))
    ∙ ap (λ h. frames_of m b ++ h)
    (before-same (frame_in m (a ++ b)) (frame_in m a) n (λ t lt.
    ap (λ z. take m z) (drop_within a b (t * m) (omega (arith, la, row_within t n m lt)))
    ∙ take_within (drop (t * m) a) b m (omega (arith, length-drop (t * m) a, la, row_within t n m lt)))
    ∙ ap (before (frame_in m a)) (sym (whole m n (length a) some la)))

pub blocks_join : BlocksJoin
blocks_join = frames_of-append

-- ---- interleaved and back
take_none : {X : Type 0} (k : ℕ) → take {A = X} k [] ≡ []
take_none zero = refl
take_none (suc k) = refl

take_next : {X : Type 0} (a m : ℕ) (xs : List X) → take (a + m) xs ≡ take a xs ++ take m (drop a xs)
take_next zero m xs = let e : 0 + m ≡ m = omega arith in ap (λ k. take k xs) e
take_next (suc a) m [] = take_none (suc a + m) ∙ sym (take_none m)
take_next (suc a) m (x ∷ xs) = let e : suc a + m ≡ suc (a + m) = omega arith in ap (λ k. take k (x ∷ xs)) e ∙ ap (λ ys. x ∷ ys) (take_next a m xs)

interleaved-before : (m : ℕ) (samples : List ℤ) (n : ℕ) → interleaved (before (frame_in m samples) n) ≡ take (n * m) samples
interleaved-before m samples zero = let e : 0 * m ≡ 0 = omega arith in ap (λ k. take k samples) (sym e)
interleaved-before m samples (suc n) =
    let e : n * m + m ≡ suc n * m = omega (arith, suc-mul n m) in
    ap (λ xs. xs ++ frame_in m samples n) (interleaved-before m samples n) ∙ sym (take_next (n * m) m samples) ∙ ap (λ k. take k samples) e

take_whole : {X : Type 0} (n : ℕ) (xs : List X) → length xs ≡ n → take n xs ≡ xs
take_whole zero [] e = refl
take_whole zero (x ∷ xs) e = absurd (omega (arith, e))
take_whole (suc n) [] e = refl
take_whole (suc n) (x ∷ xs) e = ap (λ ys. x ∷ ys) (take_whole n xs (omega (arith, e)))

pub frames_are_interleaved : FramesAreInterleaved
frames_are_interleaved m n samples some e =
    ap (λ k. interleaved (before (frame_in m samples) k)) (whole m n (length samples) some e)
    ∙ interleaved-before m samples n ∙ take_whole (n * m) samples e

pub length-interleaved : (m : ℕ) (h : History) → All (λ f. length f ≡ m) h → length (interleaved h) ≡ length h * m
length-interleaved m [] wide = let e : 0 ≡ 0 * m = omega arith in e
length-interleaved m (f ∷ h) wide =
    length-append (interleaved h) f ∙ ap (λ n. n + length f) (length-interleaved m h (All-tail (λ f. length f ≡ m) f h wide))
    ∙ ap (λ n. length h * m + n) (All-head (λ f. length f ≡ m) f h wide) ∙ sym (suc-mul (length h) m)

one_frame : (m : ℕ) (f : Frame) → 0 < m → length f ≡ m → frames_of m f ≡ f ∷ []
one_frame m f some e =
    let one : length f ≡ 1 * m = omega (arith, e) in
    let first : 0 * m ≡ 0 = omega arith in
    ap (before (frame_in m f)) (whole m 1 (length f) some one) ∙ ap (λ k. take m (drop k f) ∷ []) first ∙ ap (λ x. x ∷ []) (take_whole m f e)

pub interleaved_are_frames : InterleavedAreFrames
interleaved_are_frames m [] some wide = ap (before (frame_in m [])) (whole m 0 0 some (omega arith))
interleaved_are_frames m (f ∷ h) some wide =
    let rest = All-tail (λ f. length f ≡ m) f h wide in
    let here = All-head (λ f. length f ≡ m) f h wide in
    let one : length f ≡ 1 * m = omega (arith, here) in
    frames_of-append m (length h) 1 (interleaved h) f some (length-interleaved m h rest) one
    ∙ ap (λ x. x ++ frames_of m (interleaved h)) (one_frame m f some here) ∙ ap (λ x. f ∷ x) (interleaved_are_frames m h some rest)

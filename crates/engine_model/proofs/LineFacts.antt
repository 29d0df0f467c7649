-- What a line holds, and what it gives.
use Rattle.std.proofs.Common.{◌≡◌, ℕ, zero, suc, ◌+◌, ◌-◌, ◌<◌, ◌≤◌, List, [], ◌∷◌, ◌++◌, length, replicate, get_or, ℤ, pos, refl, sym, ap, ◌∙◌, subst, arith, ltb}
use Rattle.std.proofs.lemmas.Bool.{cond-true, cond-false, lt-ltb, le-ltb}
use Rattle.std.proofs.lemmas.List.{ext_get_or, get_or-take, length-take, length-append, length-replicate, length-map, get_or_append_left, get_or_past}
use Rattle.graph_model.specs.Histories.{Frame, channel, window, ago, before}
use Rattle.graph_model.specs.StreamLaws.{get_or_zeros}
use Rattle.graph_model.proofs.BlockLaws.{length-before}
use Rattle.graph_model.specs.Streams.{on, later}
use Rattle.graph_model.proofs.CommonFacts.{by_lt}

pub length-window : (d : ℕ) (xs : List ℤ) → length (window d xs) ≡ d
length-window d xs = omega (arith, length-take d (xs ++ replicate d (pos 0)), length-append xs (replicate d (pos 0)), length-replicate d (pos 0))

padding : (xs : List ℤ) (d k : ℕ) → get_or (xs ++ replicate d (pos 0)) k (pos 0) ≡ ago xs k
padding [] d k = get_or_zeros d k
padding (x ∷ xs) d zero = refl
padding (x ∷ xs) d (suc k) = padding xs d k

-- what a window shows
pub window_at : (d : ℕ) (xs : List ℤ) (k : ℕ) → k < d → get_or (window d xs) k (pos 0) ≡ ago xs k
window_at d xs k lt = get_or-take d (xs ++ replicate d (pos 0)) k (pos 0) lt ∙ padding xs d k

front : (d : ℕ) (x : ℤ) (xs : List ℤ) (k : ℕ) → k < d → get_or (x ∷ window d xs) k (pos 0) ≡ ago (x ∷ xs) k
front d x xs zero lt = refl
front d x xs (suc k) lt = window_at d xs k (omega arith)

back : (d : ℕ) (x : ℤ) (xs : List ℤ) → get_or (x ∷ window d xs) d (pos 0) ≡ ago (x ∷ xs) d
back zero x xs = refl
back (suc d) x xs = window_at (suc d) xs d (omega arith)

at_last : (xs : List ℤ) (x : ℤ) (d : ℕ) → length xs ≡ d → get_or (xs ++ x ∷ []) d (pos 0) ≡ x
at_last [] x zero e = refl
at_last [] x (suc d) e = absurd (omega (arith, e))
at_last (y ∷ xs) x zero e = absurd (omega (arith, e))
at_last (y ∷ xs) x (suc d) e = at_last xs x d (omega (arith, e))

-- a sample goes in at the front, and what came d before comes out at the back
pub window_more : (d : ℕ) (x : ℤ) (xs : List ℤ) → x ∷ window d xs ≡ window d (x ∷ xs) ++ ago (x ∷ xs) d ∷ []
window_more d x xs =
    let short = length-window d xs in
    let same = length-window d (x ∷ xs) in
    let long = length-append (window d (x ∷ xs)) (ago (x ∷ xs) d ∷ []) in
    ext_get_or (pos 0) (x ∷ window d xs) (window d (x ∷ xs) ++ ago (x ∷ xs) d ∷ []) (omega (arith, short, same, long))
    (λ k lt. by_lt k d
    (λ in_time. front d x xs k in_time ∙ sym (get_or_append_left (window d (x ∷ xs)) (ago (x ∷ xs) d ∷ []) (pos 0) k (omega (arith, same)) ∙ window_at d (x ∷ xs) k in_time))
    (λ at_end.
    let k_is : d ≡ k = omega (arith, short) in
    let l_is : length (window d (x ∷ xs)) + 0 ≡ k = omega (arith, same) in
    subst (λ j. get_or (x ∷ window d xs) j (pos 0) ≡ get_or (window d (x ∷ xs) ++ ago (x ∷ xs) d ∷ []) j (pos 0)) k_is
    (back d x xs ∙ sym (at_last (window d (x ∷ xs)) (ago (x ∷ xs) d) d same))))

pub ago_is : (f : ℕ → Frame) (c n j : ℕ) → j < n → ago (channel c (before f n)) j ≡ on f c (n - 1 - j)
ago_is f c zero j lt = absurd (omega arith)
ago_is f c (suc n) zero lt = let e : n ≡ suc n - 1 - 0 = omega arith in ap (on f c) e
ago_is f c (suc n) (suc j) lt = let e : n - 1 - j ≡ suc n - 1 - suc j = omega arith in ago_is f c n j (omega arith) ∙ ap (on f c) e

pub ago_none : (f : ℕ → Frame) (c n j : ℕ) → n ≤ j → ago (channel c (before f n)) j ≡ pos 0
ago_none f c n j past = get_or_past (channel c (before f n)) j (pos 0) (omega (arith, length-map (before f n) (λ (g : Frame). get_or g c (pos 0)), length-before f n))

-- what a connection gives is what was d frames ago
pub shown : (f : ℕ → Frame) (c d T : ℕ) → ago (channel c (before f (suc T))) d ≡ later d (on f c) T
shown f c d T =
    by_lt T d
    (λ past. ago_none f c (suc T) d (omega arith) ∙ sym (cond-true (ltb T d) (pos 0) (on f c (T - d)) (lt-ltb T d past)))
    (λ in_time.
    let place : suc T - 1 - d ≡ T - d = omega arith in
    ago_is f c (suc T) d (omega arith) ∙ ap (on f c) place ∙ sym (cond-false (ltb T d) (pos 0) (on f c (T - d)) (le-ltb T d in_time)))

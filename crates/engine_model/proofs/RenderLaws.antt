-- From blocks at a time to blocks after a history.
use Rattle.std.proofs.Common.{◌≡◌, ℕ, ◌+◌, ◌-◌, ◌*◌, ◌<◌, List, [], ◌++◌, length, get_or, ℤ, sym, ap, ◌∙◌, subst, arith}
use Rattle.std.proofs.lemmas.List.{length-append, get_or_append_left}
use Rattle.graph_model.specs.Histories.{Frame, History, before, frame_in, frames_of}
use Rattle.graph_model.proofs.BlockLaws.{length-frames_of, whole}
use Rattle.graph_model.proofs.StreamFacts.{before-at}
use Rattle.engine_model.proofs.BlockLaws.{frame_at, before_frames, before_frames_append}

-- the frames of a stream, the newest first
pub get_or-before : (x : ℕ → Frame) (n k : ℕ) → k < n → get_or (before x n) (n - 1 - k) [] ≡ x k
get_or-before x n k lt = let back : n - 1 - (n - 1 - k) ≡ k = omega arith in before-at x n (n - 1 - k) (omega arith) ∙ ap x back

-- frame k of a block that follows a history
pub frame_after : (a h : History) (k : ℕ) → k < length a → frame_at (a ++ h) (length h + k) ≡ get_or a (length a - 1 - k) []
frame_after a h k lt =
    let all = length-append a h in
    let place : length (a ++ h) - 1 - (length h + k) ≡ length a - 1 - k = omega (arith, all) in
    ap (λ j. get_or (a ++ h) j []) place ∙ get_or_append_left a h [] (length a - 1 - k) (omega arith)

-- what a block does at every time, it does after every history
pub after_histories : (P Q : History → Type 0) (m n : ℕ) (input : List ℤ) → 0 < m → length input ≡ n * m
    → ((x : ℕ → Frame) (T : ℕ) → P (before x T) → ((k : ℕ) → k < n → x (T + k) ≡ frame_in m input k) → Q (before x (T + n)))
    → (h : History) → P h → Q (frames_of m input ++ h)
after_histories P Q m n input some e step h holds =
    let a = frames_of m input in
    let x = frame_at (frames_of m input ++ h) in
    let long = length-frames_of m n input some e in
    let count = whole m n (length input) some e in
    let all : length h + n ≡ length (frames_of m input ++ h) = omega (arith, length-append (frames_of m input) h, long) in
    subst Q (ap (before (frame_at (frames_of m input ++ h))) all ∙ before_frames (frames_of m input ++ h))
    (step (frame_at (frames_of m input ++ h)) (length h)
    (subst P (sym (before_frames_append (frames_of m input) h)) holds)
    (λ k lt.
    frame_after (frames_of m input) h k (omega (arith, long))
    ∙ ap (λ l. get_or (frames_of m input) (l - 1 - k) []) long
    ∙ ap (λ c. get_or (before (frame_in m input) c) (n - 1 - k) []) count
    ∙ get_or-before (frame_in m input) n k lt))

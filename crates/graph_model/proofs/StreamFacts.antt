-- The streams of the kinds: how wide and how long they are, and their frames one by one.
use Rattle.std.proofs.Common.{◌≡◌, ℕ, zero, suc, ◌-◌, ◌*◌, ◌/◌, ◌%◌, ◌<◌, ◌≤◌, List, [], ◌∷◌, length, take, drop, take_all, get_or, ℤ, pos, refl, sym, ◌∙◌, ap, subst, arith, true, false}
use Rattle.std.specs.Prelude.{unsigned_abs}
use Rattle.std.proofs.lemmas.Bool.{false≢true}
use Rattle.std.proofs.lemmas.List.{append-nil, length-drop}
use Rattle.std.proofs.lemmas.List.FromFn.{length-map-range_with_len}
use Rattle.std.proofs.lemmas.Nat.{div-add-mod'}
use Rattle.graph_model.specs.Histories.{Frame, History, before, frame_in, interleaved}
use Rattle.graph_model.specs.Kinds.{outs_of, rule_of, stream_of}
use Rattle.graph_model.specs.Graphs.{is_input}
use Rattle.graph_model.specs.Bounds.{IsWithin}
use Rattle.graph_model.specs.Answers.{given_by}
use Rattle.graph_model.specs.declared.kind.Kind.{Kind}
use Rattle.graph_model.specs.declared.kind.Kind.TheVariants.{Input, Output, Gain, Mixer, Fir, Biquad, Limiter, Delay, Insert}
use Rattle.graph_model.specs.Kernels.{IsFrameWithin}
use Rattle.graph_model.proofs.InterleavingLaws.{AreWide, wide-each}

-- ---- whole frames
pub frames_whole : (l k : ℕ) → l % k ≡ 0 → l ≡ l / k * k
frames_whole l k none = let e = div-add-mod' l k in omega arith

-- ---- what goes out of an output node is nothing
pub interleaved-output : (n : ℕ) (h : History) → interleaved (stream_of (Output n) h) ≡ []
interleaved-output n [] = refl
interleaved-output n (f ∷ h) = append-nil (interleaved (stream_of (Output n) h)) ∙ interleaved-output n h

-- ---- how wide and how long it is
rule_wide : (kind : Kind) (h : History) → length (rule_of kind h) ≡ outs_of kind
rule_wide (Input channels) h = length-map-range_with_len _ 0 channels
rule_wide (Output channels) h = refl
rule_wide (Gain channels gain) h = length-map-range_with_len _ 0 channels
rule_wide (Mixer ins outs gains) h = length-map-range_with_len _ 0 outs
rule_wide (Fir channels taps shift latency) h = length-map-range_with_len _ 0 channels
rule_wide (Biquad channels b0 b1 b2 a1 a2 shift bits) h = length-map-range_with_len _ 0 channels
rule_wide (Limiter channels threshold lookahead) h = length-map-range_with_len _ 0 channels
rule_wide (Delay channels samples) h = length-map-range_with_len _ 0 channels
rule_wide (Insert channels samples) h = length-map-range_with_len _ 0 channels

pub wide-given : (kind : Kind) (h s : History) → (is_input kind ≡ true → AreWide (outs_of kind) h) → AreWide (outs_of kind) (given_by kind h s)
wide-given (Input n) h s w = w refl
wide-given kind h s w = wide-each (outs_of kind) (rule_of kind) (rule_wide kind) s

pub given_input : (kind : Kind) (h s : History) → is_input kind ≡ true → given_by kind h s ≡ h
given_input (Input n) h s is = refl
given_input kind h s is = absurd (false≢true is)

pub given_processor : (kind : Kind) (h s : History) → is_input kind ≡ false → given_by kind h s ≡ stream_of kind s
given_processor (Input n) h s isnt = absurd (false≢true (sym isnt))
given_processor kind h s isnt = refl

-- ---- frames one by one
-- the frame k before the last of n
pub before-at : (x : ℕ → Frame) (n k : ℕ) → k < n → get_or (before x n) k [] ≡ x (n - 1 - k)
before-at x zero k lt = absurd (omega arith)
before-at x (suc n) zero lt = let e : n ≡ suc n - 1 - 0 = omega arith in ap x e
before-at x (suc n) (suc k) lt = let e : n - 1 - k ≡ suc n - 1 - suc k = omega arith in before-at x n k (omega arith) ∙ ap x e

-- each frame of a history within the bounds is
pub frame_within : (bs : List ℕ) (x : ℕ → Frame) (n t : ℕ) → IsWithin bs (before x n) → t < n → IsFrameWithin bs (x t)
frame_within bs x n t within lt c =
    let back : n - 1 - (n - 1 - t) ≡ t = omega arith in
    let at : get_or (before x n) (n - 1 - t) [] ≡ x t = before-at x n (n - 1 - t) (omega arith) ∙ ap x back in
    subst (λ f. unsigned_abs (get_or f c (pos 0)) ≤ get_or bs c 0) at (within c (n - 1 - t))

-- frame t as it is cut out
pub frame_is : (m t : ℕ) (xs : List ℤ) → take m (take (length xs - t * m) (drop (t * m) xs)) ≡ frame_in m xs t
frame_is m t xs = ap (take m) (take_all (length xs - t * m) (drop (t * m) xs) (omega (arith, length-drop (t * m) xs)))

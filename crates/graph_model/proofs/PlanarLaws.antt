-- Blocks of planar samples, and streams that go on with them.
use Rattle.std.proofs.Common.{◌≡◌, ℕ, zero, suc, ◌+◌, ◌-◌, ◌*◌, ◌<◌, ◌≤◌, List, [], ◌∷◌, ◌++◌, length, take, get_or, ℤ, pos, refl, sym, ap, ◌∙◌, subst, arith}
use Rattle.std.proofs.lemmas.List.{take_at}
use Rattle.std.proofs.lemmas.List.FromFn.{get_or-map-range_with_len, length-map-range_with_len, fill_by_all}
use Rattle.std.proofs.Math.Nat.{suc-mul}
use Rattle.graph_model.specs.Blocks.{planar_frame, planar, so_far, StreamsGoOn}
use Rattle.graph_model.specs.Bounds.{IsWithin}
use Rattle.graph_model.specs.Histories.{Frame, History, before, channel, frame_in, on_each, stream}
use Rattle.graph_model.specs.Kernels.{IsFrameWithin}
use Rattle.graph_model.proofs.BlockLaws.{length-before, row_within, sample_in}
use Rattle.graph_model.proofs.CommonFacts.{by_lt}
use Rattle.graph_model.proofs.StreamFacts.{frame_within}

-- ---- the stream of a history that goes on with a block
pub stream-before : StreamsGoOn
stream-before rule x zero h = refl
stream-before rule x (suc n) h = ap (λ s. rule (x n ∷ (before x n ++ h)) ∷ s) (stream-before rule x n h)

pub take-stream : (rule : History → Frame) (x : ℕ → Frame) (n : ℕ) (h : History)
    → take n (stream rule (before x n ++ h)) ≡ before (λ t. rule (before x (suc t) ++ h)) n
take-stream rule x n h =
    ap (take n) (stream-before rule x n h)
    ∙ take_at (before (λ t. rule (before x (suc t) ++ h)) n) (stream rule h) n (length-before (λ t. rule (before x (suc t) ++ h)) n)

-- ---- bounds
pub within-cons : (bs : List ℕ) (f : Frame) (h : History) → IsFrameWithin bs f → IsWithin bs h → IsWithin bs (f ∷ h)
within-cons bs f h first rest c zero = first c
within-cons bs f h first rest c (suc k) = rest c k

pub within-before : (bs : List ℕ) (x : ℕ → Frame) (n : ℕ) → ((t : ℕ) → t < n → IsFrameWithin bs (x t)) → IsWithin bs (before x n)
within-before bs x zero each c k = omega arith
within-before bs x (suc n) each c zero = each n (omega arith) c
within-before bs x (suc n) each c (suc k) = within-before bs x n (λ t lt. each t (omega arith)) c k

pub within_upto : (bs : List ℕ) (x : ℕ → Frame) (n : ℕ) (h : History) → IsWithin bs (before x n) → IsWithin bs h
    → (t : ℕ) → t ≤ n → IsWithin bs (before x t ++ h)
within_upto bs x n h w rest zero le = rest
within_upto bs x n h w rest (suc t) le =
    within-cons bs (x t) (before x t ++ h) (frame_within bs x n t w (omega arith)) (within_upto bs x n h w rest t (omega arith))

-- ---- places
-- a place among m rows of n samples
pub record Place (m n i : ℕ) : Type 0 where
  pub c : ℕ
  pub t : ℕ
  pub row : c < m
  pub column : t < n
  pub is : i ≡ c * n + t

pub place : (m n i : ℕ) → i < m * n → Place m n i
place zero n i lt = absurd (omega arith)
place (suc m) n i lt =
    by_lt i (m * n)
    (λ less.
    let p = place m n i less in
    record { c = p.c; t = p.t; row = omega (arith, p.row); column = p.column; is = p.is })
    (λ le.
    let e = suc-mul m n in
    record { c = m; t = i - m * n; row = omega arith; column = omega arith; is = omega arith })

pub in_rows : (m n c t : ℕ) → c < m → t < n → c * n + t < m * n
in_rows m n c t lc lt = let row = row_within c m n lc in omega arith

-- ---- channel by channel
pub on_each_at : (n : ℕ) (voice : List ℤ → ℤ) (h : History) (c : ℕ) → c < n → get_or (on_each n voice h) c (pos 0) ≡ voice (channel c h)
on_each_at n voice h c lt = get_or-map-range_with_len (λ d. voice (channel d h)) 0 n c c (pos 0) lt (omega arith)

pub on_each_is : (n : ℕ) (voice : List ℤ → ℤ) (h : History) (outs : Frame) → length outs ≡ n
    → ((c : ℕ) → c < n → get_or outs c (pos 0) ≡ voice (channel c h)) → outs ≡ on_each n voice h
on_each_is n voice h outs count each = fill_by_all (λ d. voice (channel d h)) outs n (pos 0) count each

pub channel-so_far : (m n : ℕ) (xs : List ℤ) (h : History) (c : ℕ) → c < m → (t : ℕ) → t ≤ n
    → channel c (before (planar_frame m n xs) t ++ h) ≡ so_far (frame_in n xs c) t ++ channel c h
channel-so_far m n xs h c lc zero le = refl
channel-so_far m n xs h c lc (suc t) le =
    let here : get_or (planar_frame m n xs t) c (pos 0) ≡ get_or (frame_in n xs c) t (pos 0)
    = get_or-map-range_with_len (λ d. get_or xs (d * n + t) (pos 0)) 0 m c c (pos 0) lc (omega arith) ∙ sym (sample_in n xs c t (omega arith)) in
    let rest = channel-so_far m n xs h c lc t (omega arith) in
    cc

-- the frame that goes out of a rule on each channel
pub voices_out : (m n : ℕ) (voice : List ℤ → ℤ) (ins outs : List ℤ) (h : History) (t : ℕ) → t < n
    → ((c : ℕ) → c < m → get_or outs (c * n + t) (pos 0) ≡ voice (so_far (frame_in n ins c) (suc t) ++ channel c h))
    → planar_frame m n outs t ≡ on_each m voice (before (planar_frame m n ins) (suc t) ++ h)
voices_out m n voice ins outs h t lt each =
    on_each_is m voice (before (planar_frame m n ins) (suc t) ++ h) (planar_frame m n outs t)
    (length-map-range_with_len (λ c. get_or outs (c * n + t) (pos 0)) 0 m)
    (λ c lc.
    get_or-map-range_with_len (λ d. get_or outs (d * n + t) (pos 0)) 0 m c c (pos 0) lc (omega arith)
    ∙ each c lc
    ∙ ap voice (sym (channel-so_far m n ins h c lc (suc t) (omega arith))))

-- ---- a block of one frame
one_frame : (m : ℕ) (f : List ℤ) → length f ≡ m → planar_frame m 1 f 0 ≡ f
one_frame m f e =
    sym (fill_by_all (λ c. get_or f (c * 1 + 0) (pos 0)) f m (pos 0) e (λ c lc. let same : c ≡ c * 1 + 0 = omega arith in ap (λ i. get_or f i (pos 0)) same))

pub one_planar : (m : ℕ) (f : List ℤ) → length f ≡ m → planar m 1 f ≡ f ∷ []
one_planar m f e = ap (λ (g : Frame). g ∷ []) (one_frame m f e)

-- a frame within the bounds is a block within them
pub one_within : (m : ℕ) (bs : List ℕ) (f : Frame) → length f ≡ m → IsFrameWithin bs f → IsWithin bs (planar m 1 f)
one_within m bs f e within =
    subst (λ (h : History). IsWithin bs h) (sym (one_planar m f e)) (within-cons bs f [] within (λ c k. omega arith))

-- What a server does with a sub-block.
use Rattle.std.proofs.Common.{◌≡◌, ℕ, ◌+◌, ◌-◌, ◌*◌, ◌<◌, ◌≤◌, zero, suc, ℤ, pos, List, [], ◌++◌, length, map, take, drop, reverse, get_or, sym, ◌∙◌, ap, subst, arith, inl, inr, ⊎_elim}
use Rattle.std.specs.List.{range_with_len}
use Rattle.std.proofs.lemmas.Bool.{cases_lt}
use Rattle.std.proofs.lemmas.List.{ext_get_or, get_or-take, get_or-drop, get_or-map, length-map, length-append, length-drop, length-take, length-reverse, length-take-le}
use Rattle.std.proofs.lemmas.List.FromFn.{get_or-map-range_with_len, length-map-range_with_len}
use borrow.Rule.Slice.PartMut.{put_mid}
use Rattle.graph_model.specs.Blocks.{planar, planar_frame}
use Rattle.graph_model.specs.Histories.{Frame, History, before, frame_in}
use Rattle.graph_model.specs.Kernels.{KernelState, IsFrameWithin}
use Rattle.graph_model.specs.Kinds.{ins_of, outs_of, rule_of, stream_of}
use Rattle.graph_model.specs.Bounds.{IsWithin}
use Rattle.graph_model.specs.declared.kind.Kind.{Kind}
use Rattle.graph_model.proofs.BlockLaws.{before-same, row_within}
use Rattle.graph_model.proofs.PlanarLaws.{take-stream, within-before}
use Rattle.delay_lines.specs.Lines.{kept}
use Rattle.delay_lines.specs.NewestFirst.{held}
use Rattle.delay_lines.proofs.ViewLaws.{held_is, latest, views_agree}
use Rattle.fixed_kernels.specs.Kernels.{Keeps, TakesBlock}
use Rattle.players.specs.Reads.{lengths_of, part}
use Rattle.players.specs.Servers.{brought, given_by, ServerHolds, FitsServer, HasLeft, SameServer}
use Rattle.players.specs.declared.leaving.Leaving.{Leaving}
use Rattle.players.specs.declared.playing.Server.{Server}
use Rattle.players.specs.declared.playing.Server.TheVariants.{Exit, Between}
use Rattle.players.proofs.PartFacts.{put_at, put_rest, row_apart}

-- ---- rows of the entry
pub entered_more : (f : ℕ → ℕ → ℤ) (count c : ℕ) (told row : List ℤ) → c * count + count ≤ length told → length row ≡ c * count + count - c * count
    → ((d t : ℕ) → d < c → t < count → get_or told (d * count + t) (pos 0) ≡ f d t)
    → ((t : ℕ) → t < count → get_or row t (pos 0) ≡ f c t)
    → (d t : ℕ) → d < c + 1 → t < count → get_or (put_mid (c * count) (c * count + count - c * count) told row) (d * count + t) (pos 0) ≡ f d t
entered_more f count c told row fits size before here d t ld lt =
    ⊎_elim
    (λ (less : d < c).
    put_rest (c * count) (c * count + count - c * count) told row (d * count + t) (pos 0) size
    (⊎_elim (λ l. inl l) (λ l. inr (omega arith)) (row_apart d c count t lt (λ e. omega arith))) (omega arith)
    ∙ before d t less lt)
    (λ (le : c ≤ d).
    let same : d ≡ c = omega arith in
    subst (λ z. get_or (put_mid (c * count) (c * count + count - c * count) told row) (z * count + t) (pos 0) ≡ f z t) (sym same)
    (put_at (c * count) (c * count + count - c * count) told row t (pos 0) (omega (arith, size)) (omega arith) ∙ here t lt))
    (cases_lt d c)

-- ---- a block of a processor
pub map_range : {X : Type 0} (f h : ℕ → X) (e : X) (n : ℕ) → ((d : ℕ) → d < n → f d ≡ h d) → map f (range_with_len 0 n) ≡ map h (range_with_len 0 n)
map_range f h e n same =
    let lf = length-map-range_with_len f 0 n in
    let lh = length-map-range_with_len h 0 n in
    ext_get_or e (map f (range_with_len 0 n)) (map h (range_with_len 0 n)) (lf ∙ sym lh)
    (λ k lt. let at : k < n = omega (arith, lf) in get_or-map-range_with_len f 0 n k k e at (omega arith) ∙ same k at ∙ sym (get_or-map-range_with_len h 0 n k k e at (omega arith)))

-- the samples of the block are those of the list that it is cut from
pub planar_cut : (m count : ℕ) (xs : List ℤ) (t : ℕ) → t < count → planar_frame m count (take (m * count) xs) t ≡ planar_frame m count xs t
planar_cut m count xs t lt =
    map_range (λ d. get_or (take (m * count) xs) (d * count + t) (pos 0)) (λ d. get_or xs (d * count + t) (pos 0)) (pos 0) m
    (λ d ld. let b = row_within d m count ld in get_or-take (m * count) xs (d * count + t) (pos 0) (omega arith))

pub planar_is : (m count : ℕ) (xs : List ℤ) → planar m count (take (m * count) xs) ≡ before (planar_frame m count xs) count
planar_is m count xs = before-same (planar_frame m count (take (m * count) xs)) (planar_frame m count xs) count (λ t lt. planar_cut m count xs t lt)

within_cut : (bs : List ℕ) (m count : ℕ) (xs : List ℤ) → ((t : ℕ) → t < count → IsFrameWithin bs (planar_frame m count xs t)) → IsWithin bs (planar m count (take (m * count) xs))
within_cut bs m count xs each =
    within-before bs (planar_frame m count (take (m * count) xs)) count (λ t lt. subst (λ (f : Frame). IsFrameWithin bs f) (sym (planar_cut m count xs t lt)) (each t lt))

pub takes_block : (k : KernelState) (count ins outs : ℕ) (sums told : List ℤ) → ins ≡ ins_of k.kind → outs ≡ outs_of k.kind → ins * count ≤ length sums → outs * count ≤ length told
    → ((t : ℕ) → t < count → IsFrameWithin k.bound.ins (planar_frame ins count sums t)) → TakesBlock k count (take (ins * count) sums) (take (outs * count) told)
takes_block k count ins outs sums told is os room space within = record {
  ins = length-take-le (ins * count) sums room ∙ ap (λ m. m * count) is;
  outs = length-take-le (outs * count) told space ∙ ap (λ m. m * count) os;
  within = subst (λ m. IsWithin k.bound.ins (planar m count (take (ins * count) sums))) is (within_cut k.bound.ins ins count sums within);
}

frame_of : (x y : ℕ → Frame) (n : ℕ) → before x n ≡ before y n → (t : ℕ) → t < n → x t ≡ y t
frame_of x y zero e t lt = absurd (omega arith)
frame_of x y (suc n) e t lt =
    ⊎_elim
    (λ (less : t < n). frame_of x y n (ap (drop 1) e) t less)
    (λ (le : n ≤ t). let same : t ≡ n = omega arith in subst (λ z. x z ≡ y z) (sym same) (ap (λ (h : History). get_or h 0 []) e))
    (cases_lt t n)

-- each sample that a block gives
pub gave_at : (kind : Kind) (m k count : ℕ) (ins outs : List ℤ) (h : History)
    → before (planar_frame m count outs) count ≡ take count (stream_of kind (before (planar_frame k count ins) count ++ h))
    → (c t : ℕ) → c < m → t < count → get_or outs (c * count + t) (pos 0) ≡ get_or (rule_of kind (before (planar_frame k count ins) (suc t) ++ h)) c (pos 0)
gave_at kind m k count ins outs h e c t lc lt =
    sym (get_or-map-range_with_len (λ d. get_or outs (d * count + t) (pos 0)) 0 m c c (pos 0) lc (omega arith))
    ∙ ap (λ (f : Frame). get_or f c (pos 0))
    (frame_of (planar_frame m count outs) (λ s. rule_of kind (before (planar_frame k count ins) (suc s) ++ h)) count
    (e ∙ take-stream (rule_of kind) (planar_frame k count ins) count h) t lt)

-- ---- what a server holds and tells
pub between_holds : (sv : Server) (p q : KernelState) → sv ≡ Between p → (input : List ℤ) (channels first count ins : ℕ) (sums : List ℤ)
    → ((h : History) → Keeps p h → Keeps q (before (planar_frame ins count sums) count ++ h))
    → (h : History) → ServerHolds sv h → Keeps q (brought sv (frame_in channels input) first (planar_frame ins count sums) count ++ h)
between_holds sv p q is input channels first count ins sums done =
    subst (λ (s : Server). (h : History) → ServerHolds s h → Keeps q (brought s (frame_in channels input) first (planar_frame ins count sums) count ++ h)) (sym is) done

pub between_told : (sv : Server) (p : KernelState) → sv ≡ Between p → (input : List ℤ) (channels first count ins outs : ℕ) (sums told : List ℤ)
    → ((h : History) (c t : ℕ) → Keeps p h → c < outs → t < count → get_or told (c * count + t) (pos 0) ≡ get_or (rule_of p.kind (before (planar_frame ins count sums) (suc t) ++ h)) c (pos 0))
    → (h : History) (c t : ℕ) → ServerHolds sv h → c < outs → t < count → get_or told (c * count + t) (pos 0) ≡ get_or (given_by sv (brought sv (frame_in channels input) first (planar_frame ins count sums) (suc t) ++ h)) c (pos 0)
between_told sv p is input channels first count ins outs sums told done =
    subst (λ (s : Server). (h : History) (c t : ℕ) → ServerHolds s h → c < outs → t < count → get_or told (c * count + t) (pos 0) ≡ get_or (given_by s (brought s (frame_in channels input) first (planar_frame ins count sums) (suc t) ++ h)) c (pos 0)) (sym is) done

-- ---- the exit
pub length-kept : (line samples : List ℤ) → length (kept line samples) ≡ length line
length-kept line samples = omega (arith, length-drop (length samples) (line ++ samples), length-append line samples)

-- the lines of the exit stay as long
lengths_stay : (count : ℕ) (rows : List ℤ) (old new : List (List ℤ)) → length new ≡ length old
    → ((d : ℕ) → d < length old → get_or new d [] ≡ kept (get_or old d []) (part (d * count) count rows))
    → lengths_of new ≡ lengths_of old
lengths_stay count rows old new len each =
    ext_get_or 0 (lengths_of new) (lengths_of old)
    (length-map new (λ (l : List ℤ). length l) ∙ len ∙ sym (length-map old (λ (l : List ℤ). length l)))
    (λ k lt.
    let lk : k < length new = omega (arith, lt, length-map new (λ (l : List ℤ). length l)) in
    get_or-map (λ (l : List ℤ). length l) new k [] 0 lk
    ∙ ap length (each k (omega (arith, lk, len))) ∙ length-kept (get_or old k []) (part (k * count) count rows)
    ∙ sym (get_or-map (λ (l : List ℤ). length l) old k [] 0 (omega (arith, lk, len))))

pub exit_same : (sv : Server) (e f : Leaving) → sv ≡ Exit e → (count : ℕ) (rows : List ℤ) → f.start ≡ e.start → length f.lines.items ≡ length e.lines.items
    → ((d : ℕ) → d < length e.lines.items → get_or f.lines.items d [] ≡ kept (get_or e.lines.items d []) (part (d * count) count rows))
    → SameServer sv (Exit f)
exit_same sv e f is count rows start len each =
    subst (λ (s : Server). SameServer s (Exit f)) (sym is) (start, lengths_stay count rows e.lines.items f.lines.items len each)

newest_first : (line : List ℤ) (f : ℕ → ℤ) (x : ℕ → Frame) (d start : ℕ) (h : History) → ((k : ℕ) → start + k < length h → k < length line → get_or line k (pos 0) ≡ get_or (get_or h k []) d (pos 0))
    → (n k : ℕ) → ((t : ℕ) → t < n → f t ≡ get_or (x t) d (pos 0)) → start + k < length (before x n ++ h) → k < length line
    → get_or (latest f n ++ line) k (pos 0) ≡ get_or (get_or (before x n ++ h) k []) d (pos 0)
newest_first line f x d start h base zero k same lh lt = base k lh lt
newest_first line f x d start h base (suc n) zero same lh lt = same n (omega arith)
newest_first line f x d start h base (suc n) (suc k) same lh lt = newest_first line f x d start h base n k (λ t l. same t (omega arith)) (omega arith) (omega arith)

left_more : (e f : Leaving) (count ins : ℕ) (rows : List ℤ) → length e.lines.items ≡ ins → ins * count ≤ length rows → f.start ≡ e.start → length f.lines.items ≡ length e.lines.items
    → ((d : ℕ) → d < length e.lines.items → get_or f.lines.items d [] ≡ kept (get_or e.lines.items d []) (part (d * count) count rows))
    → (h : History) → HasLeft e h → HasLeft f (before (planar_frame ins count rows) count ++ h)
left_more e f count ins rows wide room start len each h left d k ld lh lk =
    let le : d < length e.lines.items = omega (arith, ld, len) in
    let fits = row_within d ins count (omega (arith, le, wide)) in
    let size : length (part (d * count) count rows) ≡ count
    = omega (arith, length-take count (drop (d * count) rows), length-drop (d * count) rows, fits, room) in
    let is : get_or f.lines.items d [] ≡ kept (get_or e.lines.items d []) (part (d * count) count rows) = each d le in
    let back : length (reverse (get_or e.lines.items d [])) ≡ length (get_or e.lines.items d []) = length-reverse (get_or e.lines.items d []) in
    let lk' : k < length (get_or e.lines.items d []) = omega (arith, lk, ap length is, length-kept (get_or e.lines.items d []) (part (d * count) count rows)) in
    let whole : reverse (kept (get_or e.lines.items d []) (part (d * count) count rows)) ≡ held (reverse (get_or e.lines.items d [])) (λ t. get_or rows (d * count + t) (pos 0)) (length (part (d * count) count rows))
    = (views_agree (get_or e.lines.items d []) (part (d * count) count rows) (λ t. get_or rows (d * count + t) (pos 0))
    (λ t lt. get_or-take count (drop (d * count) rows) t (pos 0) (omega (arith, size)) ∙ get_or-drop (d * count) rows t (pos 0))).0 in
    ap (λ (l : List ℤ). get_or (reverse l) k (pos 0)) is
    ∙ ap (λ (l : List ℤ). get_or l k (pos 0))
    (whole ∙ held_is (reverse (get_or e.lines.items d [])) (λ t. get_or rows (d * count + t) (pos 0)) (length (part (d * count) count rows)))
    ∙ get_or-take (length (reverse (get_or e.lines.items d []))) (latest (λ t. get_or rows (d * count + t) (pos 0)) (length (part (d * count) count rows)) ++ reverse (get_or e.lines.items d [])) k (pos 0) (omega (arith, back))
    ∙ ap (λ n. get_or (latest (λ t. get_or rows (d * count + t) (pos 0)) n ++ reverse (get_or e.lines.items d [])) k (pos 0)) size
    ∙ newest_first (reverse (get_or e.lines.items d [])) (λ t. get_or rows (d * count + t) (pos 0)) (planar_frame ins count rows) d e.start h
    (λ j a b. left d j le a (omega (arith, back))) count k
    (λ t lt. sym (get_or-map-range_with_len (λ c. get_or rows (c * count + t) (pos 0)) 0 ins d d (pos 0) (omega (arith, le, wide)) (omega arith)))
    (omega (arith, lh, start)) (omega (arith, back))

pub exit_holds : (sv : Server) (e f : Leaving) → sv ≡ Exit e → (input : List ℤ) (channels first count ins outs : ℕ) (rows : List ℤ) → FitsServer sv ins outs → ins * count ≤ length rows
    → f.start ≡ e.start → length f.lines.items ≡ length e.lines.items
    → ((d : ℕ) → d < length e.lines.items → get_or f.lines.items d [] ≡ kept (get_or e.lines.items d []) (part (d * count) count rows))
    → (h : History) → ServerHolds sv h → HasLeft f (brought sv (frame_in channels input) first (planar_frame ins count rows) count ++ h)
exit_holds sv e f is input channels first count ins outs rows fits room start len each =
    subst (λ (s : Server). FitsServer s ins outs → (h : History) → ServerHolds s h → HasLeft f (brought s (frame_in channels input) first (planar_frame ins count rows) count ++ h)) (sym is)
    (λ fit h left. left_more e f count ins rows fit.1 room start len each h left) fits

-- Blocks through a biquad.
use Rattle.std.proofs.Common.{◌≡◌, ℕ, zero, suc, ◌+◌, ◌*◌, ◌<◌, ◌≤◌, List, [], ◌∷◌, ◌++◌, length, drop, replicate, get_or, ℤ, pos, refl, sym, ap, ◌∙◌, subst, arith}
use Rattle.std.specs.Prelude.{unsigned_abs}
use Rattle.std.proofs.lemmas.List.{get_or-map, length-map, length-replicate}
use Rattle.std.proofs.lemmas.List.FromFn.{get_or-map-range_with_len, fill_by_all}
use Rattle.graph_model.specs.Bounds.{IsWithin}
use Rattle.graph_model.specs.Filters.{Coefficients, biquad_of, recursed}
use Rattle.graph_model.specs.Histories.{History, ago, channel, frame_in, window, on_each, stream}
use Rattle.graph_model.specs.Kept.{windows, Kept}
use Rattle.graph_model.specs.QuietLaws.{biquad-cons}
use Rattle.graph_model.specs.Ranges.{HasRange}
use Rattle.graph_model.specs.declared.kind.Kind.{Kind}
use Rattle.graph_model.specs.declared.graph.Bound.{Bound}
use Rattle.graph_model.specs.Kernels.{new_kernel, IsBoundOf}
use Rattle.fixed_kernels.specs.Kernels.{Keeps, IsKernel, IsNextBlock}
use Rattle.graph_model.specs.Blocks.{planar, so_far}
use Rattle.graph_model.proofs.PlanarLaws.{channel-so_far, place, voices_out, on_each_at}
use Rattle.fixed_kernels.specs.Sections.{coefficients, section_kind, silent_tail, tail_at, last_ins, last_outs, next_out, next_tail, tail_upto, AreStepped}
use Rattle.fixed_kernels.specs.States.{biquad_state}
use Rattle.fixed_kernels.specs.declared.section.Section.{Section}
use Rattle.fixed_kernels.specs.declared.section.Tail.{Tail}
use Rattle.fixed_kernels.proofs.ChannelFacts.{map-copies}
use Rattle.fixed_kernels.proofs.KernelFacts.{new_is_kernel}
use Rattle.fixed_kernels.proofs.BlockFacts.{blocks, block_kernel, in_within}

-- the last two samples, one by one
window-two : (xs : List ℤ) → window 2 xs ≡ ago xs 0 ∷ ago xs 1 ∷ []
window-two [] = refl
window-two (x ∷ []) = refl
window-two (x ∷ y ∷ xs) = refl

abbrev pair : ℤ → ℤ → List ℤ
pair a b = a ∷ b ∷ []

-- the last two outputs of a channel
module _ (n : ℕ) (voice : List ℤ → ℤ) (quiet : voice [] ≡ pos 0) (c : ℕ) (lt : c < n) where
  out_now : (h : History) → ago (channel c (stream (on_each n voice) h)) 0 ≡ voice (channel c h)
  out_now [] = sym quiet
  out_now (f ∷ h) = on_each_at n voice (f ∷ h) c lt

  out_before : (h : History) → ago (channel c (stream (on_each n voice) h)) 1 ≡ voice (drop 1 (channel c h))
  out_before [] = sym quiet
  out_before (f ∷ h) = out_now h

  last_two : (h : History) → window 2 (channel c (stream (on_each n voice) h)) ≡ pair (voice (channel c h)) (voice (drop 1 (channel c h)))
  last_two h = window-two (channel c (stream (on_each n voice) h)) ∙ (λ i. pair (out_now h i) (out_before h i))

-- what is kept of a channel whose samples are xs
pub record IsTailOf (k : Coefficients) (t : Tail) (xs : List ℤ) : Type 0 where
  pub x1 : t.x1 ≡ ago xs 0
  pub x2 : t.x2 ≡ ago xs 1
  pub y1 : t.y1 ≡ biquad_of k xs
  pub y2 : t.y2 ≡ biquad_of k (drop 1 xs)

-- the next output
next_out_is : (s : Section) (t : Tail) (x : ℤ) (xs : List ℤ) → IsTailOf (coefficients s) t xs → next_out s t x ≡ biquad_of (coefficients s) (x ∷ xs)
next_out_is s t x xs is =
    (λ i. recursed (coefficients s) x (is.x1 i) (is.x2 i) (is.y1 i) (is.y2 i)) ∙ sym (biquad-cons (coefficients s) x xs)

tail_next : (s : Section) (t : Tail) (x : ℤ) (xs : List ℤ) → IsTailOf (coefficients s) t xs → IsTailOf (coefficients s) (next_tail s t x) (x ∷ xs)
tail_next s t x xs is = record { x1 = refl; x2 = is.x1; y1 = next_out_is s t x xs is; y2 = is.y1 }

-- the tails of all channels are what a biquad keeps
module _ (s : Section) (bound : Bound) (tails : List Tail) (h : History) where
  pub tails_stand : ((c : ℕ) → c < length tails → IsTailOf (coefficients s) (tail_at tails c) (channel c h)) → Keeps (biquad_state s bound tails) h
  tails_stand is =
      let n : ℕ = length tails in
      let ins : last_ins tails ≡ windows (length tails) 2 h =
      fill_by_all (λ c. window 2 (channel c h)) (last_ins tails) (length tails) [] (length-map tails (λ (t : Tail). pair t.x1 t.x2))
      (λ c lt. get_or-map (λ (t : Tail). pair t.x1 t.x2) tails c silent_tail [] lt
      ∙ (λ i. pair ((is c lt).x1 i) ((is c lt).x2 i)) ∙ sym (window-two (channel c h))) in
      let outs : last_outs tails ≡ windows (length tails) 2 (stream (on_each (length tails) (biquad_of (coefficients s))) h) =
      fill_by_all (λ c. window 2 (channel c (stream (on_each (length tails) (biquad_of (coefficients s))) h))) (last_outs tails) (length tails) []
      (length-map tails (λ (t : Tail). pair t.y1 t.y2))
      (λ c lt. get_or-map (λ (t : Tail). pair t.y1 t.y2) tails c silent_tail [] lt
      ∙ (λ i. pair ((is c lt).y1 i) ((is c lt).y2 i)) ∙ sym (last_two (length tails) (biquad_of (coefficients s)) refl c lt h)) in
      λ i. record { ins = ins i; outs = outs i; scales = []; lowests = [] }

  pub tails_are : Keeps (biquad_state s bound tails) h → (c : ℕ) → c < length tails → IsTailOf (coefficients s) (tail_at tails c) (channel c h)
  tails_are stands c lt =
      let ins : pair (tail_at tails c).x1 (tail_at tails c).x2 ≡ pair (ago (channel c h) 0) (ago (channel c h) 1) =
      sym (get_or-map (λ (t : Tail). pair t.x1 t.x2) tails c silent_tail [] lt) ∙ ap (λ (k : Kept). get_or k.ins c []) stands
      ∙ get_or-map-range_with_len (λ d. window 2 (channel d h)) 0 (length tails) c c [] lt (omega arith) ∙ window-two (channel c h) in
      let outs : pair (tail_at tails c).y1 (tail_at tails c).y2 ≡ pair (biquad_of (coefficients s) (channel c h)) (biquad_of (coefficients s) (drop 1 (channel c h))) =
      sym (get_or-map (λ (t : Tail). pair t.y1 t.y2) tails c silent_tail [] lt) ∙ ap (λ (k : Kept). get_or k.outs c []) stands
      ∙ get_or-map-range_with_len (λ d. window 2 (channel d (stream (on_each (length tails) (biquad_of (coefficients s))) h))) 0 (length tails) c c [] lt (omega arith)
      ∙ last_two (length tails) (biquad_of (coefficients s)) refl c lt h in
      record {
        x1 = ap (λ (xs : List ℤ). get_or xs 0 (pos 0)) ins;
        x2 = ap (λ (xs : List ℤ). get_or xs 1 (pos 0)) ins;
        y1 = ap (λ (xs : List ℤ). get_or xs 0 (pos 0)) outs;
        y2 = ap (λ (xs : List ℤ). get_or xs 1 (pos 0)) outs;
      }

-- a new one
module _ (s : Section) (n : ℕ) (kind : Kind) (bound : Bound) (tails : List Tail)
    (zeros : tails ≡ replicate n silent_tail) (same : section_kind n s ≡ kind) where
  pub biquad_made : biquad_state s bound tails ≡ new_kernel kind bound
  biquad_made =
      let ins : last_ins tails ≡ windows n 2 [] =
      ap last_ins zeros ∙ map-copies (λ (t : Tail). pair t.x1 t.x2) (λ c. window 2 (channel c [])) silent_tail 0 n (λ c. refl) in
      let outs : last_outs tails ≡ windows n 2 [] =
      ap last_outs zeros ∙ map-copies (λ (t : Tail). pair t.y1 t.y2) (λ c. window 2 (channel c [])) silent_tail 0 n (λ c. refl) in
      let count : length tails ≡ n = ap length zeros ∙ length-replicate n silent_tail in
      (λ i. record { kind = section_kind (count i) s; bound = bound; kept = record { ins = ins i; outs = outs i; scales = []; lowests = [] } })
      ∙ ap (λ (k : Kind). new_kernel k bound) same

  pub biquad_new : HasRange kind → IsBoundOf kind bound → IsKernel (biquad_state s bound tails)
  biquad_new range follows = subst IsKernel (sym biquad_made) (new_is_kernel kind bound range follows)

-- after the first k samples of a row
pub tail_is : (s : Section) (t : Tail) (row p : List ℤ) → IsTailOf (coefficients s) t p → (k : ℕ)
    → IsTailOf (coefficients s) (tail_upto s t row k) (so_far row k ++ p)
tail_is s t row p is zero = is
tail_is s t row p is (suc k) = tail_next s (tail_upto s t row k) (get_or row k (pos 0)) (so_far row k ++ p) (tail_is s t row p is k)

module _ (s : Section) (bound : Bound) (tails : List Tail) (kernel : IsKernel (biquad_state s bound tails))
    (n : ℕ) (ins : List ℤ) (count : length ins ≡ length tails * n) (within : IsWithin bound.ins (planar (length tails) n ins))
    (new : List Tail) (moved : AreStepped s tails n ins new) where
  pub biquad_stands : (h : History) → Keeps (biquad_state s bound tails) h → Keeps (biquad_state s bound new) (planar (length tails) n ins ++ h)
  biquad_stands h stands =
      tails_stand s bound new (planar (length tails) n ins ++ h)
      (λ c lt.
      let old : c < length tails = omega (arith, moved.count) in
      subst (λ xs. IsTailOf (coefficients s) (tail_at new c) xs) (sym (channel-so_far (length tails) n ins h c old n (omega arith)))
      (subst (λ t. IsTailOf (coefficients s) t (so_far (frame_in n ins c) n ++ channel c h)) (sym (moved.each c old))
      (tail_is s (tail_at tails c) (frame_in n ins c) (channel c h) (tails_are s bound tails h stands c old) n)))

  pub biquad_kernel : IsKernel (biquad_state s bound new)
  biquad_kernel =
      block_kernel (biquad_state s bound tails) kernel refl n ins within (biquad_state s bound new)
      (ap (λ m. section_kind m s) moved.count) refl (biquad_stands kernel.history kernel.stands)

  pub biquad_blocks : (outs : List ℤ)
      → ((c t : ℕ) → c < length tails → t < n
      → get_or outs (c * n + t) (pos 0) ≡ next_out s (tail_upto s (tail_at tails c) (frame_in n ins c) t) (get_or (frame_in n ins c) t (pos 0)))
      → IsNextBlock (biquad_state s bound tails) (biquad_state s bound new) n ins outs
  biquad_blocks outs values =
      blocks (biquad_state s bound tails) kernel refl n ins within (biquad_state s bound new) outs
      (ap (λ m. section_kind m s) moved.count) refl biquad_stands
      (λ h stands t lt. voices_out (length tails) n (biquad_of (coefficients s)) ins outs h t lt
      (λ c lc. values c t lc lt
      ∙ next_out_is s (tail_upto s (tail_at tails c) (frame_in n ins c) t) (get_or (frame_in n ins c) t (pos 0)) (so_far (frame_in n ins c) t ++ channel c h)
      (tail_is s (tail_at tails c) (frame_in n ins c) (channel c h) (tails_are s bound tails h stands c lc) t)))

-- no sample that comes in passes the greatest bound
pub biquad_within : (s : Section) (bound : Bound) (tails : List Tail) (kernel : IsKernel (biquad_state s bound tails))
    (n : ℕ) (ins : List ℤ) (count : length ins ≡ length tails * n) (within : IsWithin bound.ins (planar (length tails) n ins))
    (most : ℕ) → ((c : ℕ) → get_or bound.ins c 0 ≤ most) → (i : ℕ) → i < length ins → unsigned_abs (get_or ins i (pos 0)) ≤ most
biquad_within s bound tails kernel n ins count within most above i lt =
    let p = place (length tails) n i (omega (arith, count)) in
    let size = in_within (biquad_state s bound tails) kernel refl n ins within p.c p.t p.row p.column in
    let below = above p.c in
    subst (λ j. unsigned_abs (get_or ins j (pos 0)) ≤ most) (sym p.is) (omega arith)

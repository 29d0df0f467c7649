-- A block of a limiter, over its fields and what contracts see of them.
use Rattle.std.proofs.Common.{◌≡◌, ℕ, suc, ◌*◌, ◌<◌, ◌≤◌, ◌^◌, List, [], ◌++◌, length, take, drop, get_or, ℤ, sym, ap, ◌∙◌, subst}
use Rattle.std.specs.Prelude.{unsigned_abs}
use Rattle.std.specs.List.{All}
use Rattle.std.proofs.lemmas.List.{take_at}
use Rattle.graph_model.specs.Bounds.{IsWithin}
use Rattle.graph_model.specs.Histories.{frame_in}
use Rattle.graph_model.specs.Kinds.{ins_of}
use Rattle.graph_model.specs.Limiters.{peak, scale}
use Rattle.graph_model.specs.Blocks.{planar, planar_frame}
use Rattle.graph_model.specs.Kernels.{KernelState}
use Rattle.fixed_kernels.specs.Kernels.{IsNextBlock}
use Rattle.limiter_kernel.specs.declared.limiter.Limiter.TheInside.{Inside}
use Rattle.limiter_kernel.specs.Following.{AreGains}
use Rattle.limiter_kernel.specs.Gains.{AreLimited, late, scale_to}
use Rattle.limiter_kernel.specs.Minima.{running_minima}
use Rattle.limiter_kernel.specs.States.{limiter_state, scales_in, AreLimiterFields}
use Rattle.limiter_kernel.proofs.LimiterFacts.{gains_small, late_small, limiter_blocks, lowests_small, next_fields}
use Rattle.limiter_kernel.proofs.ScaleLaws.{IsAtMostOne, small_scales}

module _ (k : Inside) (v : KernelState) (view : limiter_state k.threshold k.lookahead k.bound k.lines.items k.lowests ≡ v)
    (inv : AreLimiterFields k.threshold k.lookahead k.bound k.lines.items k.scales k.lowests)
    (n : ℕ) (ins : List ℤ) (ins_count : length ins ≡ ins_of v.kind * n) (within : IsWithin v.bound.ins (planar (ins_of v.kind) n ins)) where
  count : length ins ≡ length k.lines.items * n
  count = ins_count ∙ sym (ap (λ (s : KernelState). ins_of s.kind * n) view)

  first : IsWithin k.bound.ins (planar (length k.lines.items) n ins)
  first = subst (λ (s : KernelState). IsWithin s.bound.ins (planar (ins_of s.kind) n ins)) (sym view) within

  pub low_small : All IsAtMostOne k.lowests
  low_small = lowests_small k.threshold k.lookahead k.bound k.lines.items k.scales k.lowests inv n ins count first

  pub delayed_small : (lines : List (List ℤ)) → lines ≡ k.lines.items → (bs : List ℕ) → bs ≡ k.bound.ins → (w : ℕ) → w ≡ n
      → (c t : ℕ) → c < length lines → t < w → unsigned_abs (late (get_or lines c []) (frame_in w ins c) t) ≤ get_or bs c 0
  delayed_small lines same bs bounds w wide =
      rw (same, bounds, wide) (late_small k.threshold k.lookahead k.bound k.lines.items k.scales k.lowests inv n ins count first)

  -- the peaks of the frames, and what was found with them
  module _ (m : ℕ) (many : m ≡ length k.lines.items) (w : ℕ) (wide : w ≡ n) (peaks : List ℕ) (size : length peaks ≡ w)
      (are : (t : ℕ) → t < w → get_or peaks t 0 ≡ peak (planar_frame m w ins t))
      (queue lows room : List ℕ) (length_room : length room ≡ length peaks)
      (found : (xs : List ℕ) → k.scales ≡ running_minima xs → All IsAtMostOne xs
      → AreGains (λ t. scale_to k.threshold (get_or peaks t 0)) xs k.lowests (length peaks) queue lows room) where
    abbrev r : ℕ → ℕ
    r t = scale_to k.threshold (get_or peaks t 0)

    abbrev scales : List ℕ
    scales = scales_in k.threshold (suc k.lookahead) k.lines.items

    peaks_are : (t : ℕ) → t < n → get_or peaks t 0 ≡ peak (planar_frame (length k.lines.items) n ins t)
    peaks_are = subst (λ j. (t : ℕ) → t < n → get_or peaks t 0 ≡ peak (planar_frame j n ins t)) many
        (subst (λ j. (t : ℕ) → t < j → get_or peaks t 0 ≡ peak (planar_frame m j ins t)) wide are)

    scaled : (t : ℕ) → t < n → r t ≡ scale k.threshold (planar_frame (length k.lines.items) n ins t)
    scaled t lt = ap (scale_to k.threshold) (peaks_are t lt)

    is_room : length room ≡ n
    is_room = length_room ∙ size ∙ wide

    gains : AreGains r scales k.lowests n queue lows room
    gains = subst (λ j. AreGains (λ t. scale_to k.threshold (get_or peaks t 0)) (scales_in k.threshold (suc k.lookahead) k.lines.items) k.lowests j queue lows room)
        (size ∙ wide) (found (scales_in k.threshold (suc k.lookahead) k.lines.items) inv.spells (small_scales k.threshold (suc k.lookahead) k.lines.items))

    pub room_small : (t : ℕ) → t < length room → get_or room t 0 ≤ 2 ^ 30
    room_small = gains_small k.threshold k.lookahead k.bound k.lines.items k.scales k.lowests inv n ins count first r scaled room is_room gains.gains

    -- the lines took the rows as a slice, which is written back
    module _ (lines new : List (List ℤ)) (same : lines ≡ k.lines.items) (all : length lines ≡ k.lines.len) (kept : length new ≡ length lines)
        (fed : (c : ℕ) → c < length lines → get_or new c [] ≡ drop (length room) (get_or lines c [] ++ frame_in (length room) ins c)) where
      back : take k.lines.len (new ++ drop (length new) k.lines.items) ≡ new
      back = take_at new (drop (length new) k.lines.items) k.lines.len (kept ∙ all)

      as_many : length new ≡ length k.lines.items
      as_many = kept ∙ ap length same

      fed_all : (c : ℕ) → c < length k.lines.items → get_or new c [] ≡ drop n (get_or k.lines.items c [] ++ frame_in n ins c)
      fed_all = subst (λ (ls : List (List ℤ)). (c : ℕ) → c < length ls → get_or new c [] ≡ drop n (get_or ls c [] ++ frame_in n ins c)) same
          (subst (λ j. (c : ℕ) → c < length lines → get_or new c [] ≡ drop j (get_or lines c [] ++ frame_in j ins c)) is_room fed)

      pub fields_hold : AreLimiterFields k.threshold k.lookahead k.bound (take k.lines.len (new ++ drop (length new) k.lines.items)) queue lows
      fields_hold = rw back (next_fields k.threshold k.lookahead k.bound k.lines.items k.scales k.lowests inv n ins count first r scaled room is_room gains.gains
          new as_many fed_all lows gains.lowests queue gains.minima)

      pub block_holds : (outs : List ℤ)
          → ((c : ℕ) → c < length lines → AreLimited (get_or lines c []) (frame_in (length room) ins c) room (frame_in (length room) outs c))
          → IsNextBlock v (limiter_state k.threshold k.lookahead k.bound (take k.lines.len (new ++ drop (length new) k.lines.items)) lows) n ins outs
      block_holds outs values =
          let limited : (c : ℕ) → c < length k.lines.items → AreLimited (get_or k.lines.items c []) (frame_in n ins c) room (frame_in n outs c)
          = subst (λ (ls : List (List ℤ)). (c : ℕ) → c < length ls → AreLimited (get_or ls c []) (frame_in n ins c) room (frame_in n outs c)) same
          (subst (λ j. (c : ℕ) → c < length lines → AreLimited (get_or lines c []) (frame_in j ins c) room (frame_in j outs c)) is_room values) in
          let inside = limiter_blocks k.threshold k.lookahead k.bound k.lines.items k.scales k.lowests inv n ins count first r scaled room is_room gains.gains
          new as_many fed_all lows gains.lowests outs limited in
          subst (λ (ls : List (List ℤ)). IsNextBlock v (limiter_state k.threshold k.lookahead k.bound ls lows) n ins outs) (sym back)
          (subst (λ (s : KernelState). IsNextBlock s (limiter_state k.threshold k.lookahead k.bound new lows) n ins outs) view inside)

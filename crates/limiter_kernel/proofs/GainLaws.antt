-- Peaks of frames, and gains of a few places.
use Rattle.std.proofs.Common.{◌≡◌, ℕ, ◌+◌, ◌*◌, max, List, [], ◌∷◌, ◌++◌, get_or, ℤ, pos, ap, ◌∙◌, arith}
use Rattle.std.specs.Prelude.{unsigned_abs}
use Rattle.std.proofs.lemmas.List.FromFn.{map-range_with_len_more}
use Rattle.graph_model.specs.Histories.{Frame}
use Rattle.graph_model.specs.Limiters.{peak}
use Rattle.graph_model.specs.Blocks.{planar_frame}

peak_push : (f : Frame) (x : ℤ) → peak (f ++ x ∷ []) ≡ max (peak f) (unsigned_abs x)
peak_push [] x = omega arith
peak_push (y ∷ f) x = omega (arith, peak_push f x)

-- one channel more
pub peak_more : (c n : ℕ) (ins : List ℤ) (t : ℕ) → peak (planar_frame (c + 1) n ins t) ≡ max (peak (planar_frame c n ins t)) (unsigned_abs (get_or ins (c * n + t) (pos 0)))
peak_more c n ins t =
    ap peak (map-range_with_len_more (λ d. get_or ins (d * n + t) (pos 0)) 0 c c (omega arith)) ∙ peak_push (planar_frame c n ins t) (get_or ins (c * n + t) (pos 0))

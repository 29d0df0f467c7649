use Rattle.std.proofs.Common.{◌≡◌, ℕ, ◌<◌, ◌≤◌, ◌^◌, get_or, length, pos}
use Rattle.std.specs.Prelude.{unsigned_abs}
use Rattle.graph_model.specs.Filters.{products}
use Rattle.graph_model.specs.Rounding.{rounded}
use Rattle.graph_model.specs.Blocks.{planar_frame}
use Rattle.fixed_kernels.proofs.mixer.mix_row_narrow.Given as goal

abbrev pub invariant-loop-t : goal.invariant-loop-t
invariant-loop-t l = (k : ℕ) → k < l.t → get_or l.outs k (pos 0) ≡ pos 0

abbrev pub invariant-loop-t-2 : goal.invariant-loop-t-2
invariant-loop-t-2 l = record {
  done : (k : ℕ) → k < l.t → get_or l.outs k (pos 0) ≡ rounded (products l.row (planar_frame (length l.row) l.frames l.ins k)) 16;
  left : (k : ℕ) → l.t ≤ k → k < l.frames → get_or l.outs k (pos 0) ≡ products l.row (planar_frame (length l.row) l.frames l.ins k);
  sizes : (k : ℕ) → l.t ≤ k → k < l.frames → unsigned_abs (get_or l.outs k (pos 0)) ≤ 2 ^ 62;
}

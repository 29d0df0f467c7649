use Rattle.std.proofs.Common.{◌≡◌, ℕ, ◌<◌, get_or, length, pos}
use Rattle.graph_model.specs.Filters.{products}
use Rattle.graph_model.specs.Rounding.{rounded}
use Rattle.graph_model.specs.Blocks.{planar_frame}
use Rattle.fixed_kernels.proofs.mixer.mix_row_wide.Given as goal

abbrev pub invariant-loop-t : goal.invariant-loop-t
invariant-loop-t l = (k : ℕ) → k < l.t → get_or l.outs k (pos 0) ≡ rounded (products l.row (planar_frame (length l.row) l.frames l.ins k)) 16

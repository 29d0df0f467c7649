use Rattle.std.proofs.Common.{◌≡◌, ℕ, ◌<◌, get_or, pos}
use Rattle.graph_model.specs.Filters.{gains_to, products}
use Rattle.graph_model.specs.Histories.{frame_in}
use Rattle.graph_model.specs.Rounding.{rounded}
use Rattle.graph_model.specs.Blocks.{planar_frame}
use Rattle.fixed_kernels.proofs.mixer.mix_rows.Given as goal

abbrev pub invariant-loop-o : goal.invariant-loop-o
invariant-loop-o l = (k : ℕ) → k < l.o → (t : ℕ) → t < l.frames → get_or (frame_in l.frames l.outs k) t (pos 0)
    ≡ rounded (products (gains_to l.wide l.gains k) (planar_frame l.wide l.frames l.ins t)) 16

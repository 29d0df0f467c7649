use Rattle.std.proofs.Common.{◌≡◌, ℕ, ◌<◌, get_or}
use Rattle.graph_model.specs.Limiters.{peak}
use Rattle.graph_model.specs.Blocks.{planar_frame}
use Rattle.limiter_kernel.proofs.gain.write_peaks.Given as goal

abbrev pub invariant-loop-c : goal.invariant-loop-c
invariant-loop-c l = (t : ℕ) → t < l.frames → get_or l.peaks t 0 ≡ peak (planar_frame l.c l.frames l.ins t)

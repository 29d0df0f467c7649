use Rattle.std.proofs.Common.{◌≡◌, ◌≤◌, ◌*◌, ◌^◌, length, take}
use Rattle.std.specs.Prelude.{unsigned_abs}
use Rattle.graph_model.specs.Filters.{products}
use Rattle.graph_model.specs.Blocks.{planar_frame}
use Rattle.fixed_kernels.proofs.mixer.weighed.Given as goal

abbrev pub invariant-loop-c : goal.invariant-loop-c
invariant-loop-c l = record {
  value : l.sum ≡ products (take l.c l.row) (planar_frame (length l.row) l.frames l.ins l.t);
  size : unsigned_abs l.sum ≤ l.c * 2 ^ 94;
}

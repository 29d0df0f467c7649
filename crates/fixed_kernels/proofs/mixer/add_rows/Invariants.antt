use Rattle.std.proofs.Common.{◌≡◌, ℕ, ◌*◌, ◌<◌, ◌≤◌, get_or, length, pos, take}
use Rattle.std.specs.Prelude.{unsigned_abs}
use Rattle.graph_model.specs.Bounds.{weight}
use Rattle.graph_model.specs.Filters.{products}
use Rattle.graph_model.specs.Blocks.{planar_frame}
use Rattle.fixed_kernels.proofs.mixer.add_rows.Given as goal

abbrev pub invariant-loop-c : goal.invariant-loop-c
invariant-loop-c l = record {
  values : (t : ℕ) → t < l.frames → get_or l.outs t (pos 0) ≡ products (take l.c l.row) (planar_frame (length l.row) l.frames l.ins t);
  sizes : (t : ℕ) → t < l.frames → unsigned_abs (get_or l.outs t (pos 0)) ≤ weight (take l.c l.row) * l.most;
}

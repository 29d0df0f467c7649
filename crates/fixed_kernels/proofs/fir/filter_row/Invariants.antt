use Rattle.std.proofs.Common.{◌≡◌, ℕ, ◌*◌, ◌++◌, ◌<◌, get_or, length, min, pos}
use Rattle.fixed_kernels.specs.Rows.{filtered_at, kept_after}
use Rattle.fixed_kernels.proofs.fir.filter_row.Given as goal

abbrev pub invariant-loop-part : goal.invariant-loop-part
invariant-loop-part l = record {
  past : l.past ≡ kept_after l.initial.past l.ins (min (l.part * 64) (length l.ins));
  values : (t : ℕ) → t < min (l.part * 64) (length l.ins) → get_or l.outs t (pos 0) ≡ filtered_at l.taps l.shift (l.initial.past ++ l.ins) t;
}

use Rattle.std.proofs.Common.{ℕ, ◌<◌, ◌≤◌, get_or, pos}
use Rattle.std.specs.Prelude.{unsigned_abs}
use Rattle.fixed_kernels.proofs.narrow.most_in.Given as goal

abbrev pub invariant-loop-k : goal.invariant-loop-k
invariant-loop-k l = (j : ℕ) → j < l.k → unsigned_abs (get_or l.samples j (pos 0)) ≤ l.most

use Rattle.std.proofs.Common.{ℕ, ◌≤◌, ◌<◌, get_or}
use Rattle.host_modes.proofs.modes.render.longest.Given as goal

abbrev pub invariant-loop-length : goal.invariant-loop-length
invariant-loop-length l = record {
  most : l.longest ≤ 8192;
  all : (k d : ℕ) → k < l.length-index → get_or l.lengths k d ≤ l.longest;
}

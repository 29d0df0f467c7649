use Rattle.std.proofs.Common.{◌≡◌, ℕ, ◌<◌, ◌≤◌, get_or, pos, ◌+ℤ◌}
use Rattle.players.proofs.gathering.add.Given as goal

abbrev pub invariant-loop-t : goal.invariant-loop-t
invariant-loop-t l = record {
  done : (k : ℕ) → k < l.t → get_or l.sums k (pos 0) ≡ get_or l.initial.sums k (pos 0) +ℤ get_or l.samples k (pos 0);
  left : (k : ℕ) → l.t ≤ k → get_or l.sums k (pos 0) ≡ get_or l.initial.sums k (pos 0);
}

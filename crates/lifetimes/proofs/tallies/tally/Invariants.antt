use Rattle.std.proofs.Common.{◌≡◌, ◌==◌, ◌<◌, ℕ, count_by, length, slice_index, take}
use Rattle.lifetimes.proofs.tallies.tally.Given as goal

abbrev pub invariant-loop-number : goal.invariant-loop-number
invariant-loop-number l = record {
  one_each : length l.counts.items ≡ l.limit;
  counts : (k : ℕ) → k < l.limit → slice_index l.counts.items k ≡ count_by (λ n. n == k) (take l.number-index l.number-items);
}

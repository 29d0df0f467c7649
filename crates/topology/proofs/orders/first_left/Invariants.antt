use Rattle.std.proofs.Common.{◌≡◌, ℕ, ◌<◌, true}
use Rattle.topology.specs.Blocks.{is_taken}
use Rattle.topology.proofs.orders.first_left.Given as goal

abbrev pub invariant-loop-v : goal.invariant-loop-v
invariant-loop-v l = (u : ℕ) → u < l.v → is_taken l.taken u ≡ true

use Rattle.std.proofs.Common.{◌≡◌, replicate, pos}
use Rattle.engine.proofs.made.pool_of.Given as goal

abbrev pub invariant-loop : goal.invariant-loop
invariant-loop l = l.pool.items ≡ replicate l.counter (replicate l.block (pos 0))

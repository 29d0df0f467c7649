use Rattle.pool_waves.proofs.SwapFacts.{Swapping}
use Rattle.pool_waves.proofs.exchanges.swap_values.Given as goal

abbrev pub invariant-loop-o : goal.invariant-loop-o
invariant-loop-o l = Swapping l.homes l.fn.outs l.fn.pool l.o l.outs l.pool

use Rattle.pool_waves.proofs.ExchangeFacts.{Trading}
use Rattle.pool_waves.proofs.exchanges.exchange.Given as goal

abbrev pub invariant-loop-i : goal.invariant-loop-i
invariant-loop-i g l = Trading l.fn.jobs l.fn.pool l.i l.jobs l.pool

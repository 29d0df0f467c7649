use Rattle.kernel_tests.proofs.LimiterFacts.{open_bound}
use Rattle.kernel_tests.proofs.limiter.open_limiter.Goals as goal

pub make-requires-clause-bound : goal.make-requires-clause-bound
make-requires-clause-bound c = rw (c.in_ok-copies.ensures, c.in_ok-copies-2.ensures) (open_bound c.args.channels c.args.threshold c.args.lookahead c.requires)

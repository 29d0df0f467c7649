use Rattle.std.proofs.Common.{◌≡◌, replicate, pos}
use Rattle.kernel_tests.proofs.fixed.greatest_taps.Given as goal

abbrev pub invariant-loop : goal.invariant-loop
invariant-loop l = l.taps ≡ replicate l.counter (pos 16777215)

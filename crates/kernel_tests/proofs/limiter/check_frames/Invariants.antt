use Rattle.std.proofs.Common.{◌≡◌}
use Rattle.kernel_tests.proofs.limiter.check_frames.Given as goal

abbrev pub invariant-loop-frame : goal.invariant-loop-frame
invariant-loop-frame g l = record {
  kind : l.limiter.kind ≡ l.initial.limiter.kind;
  bound : l.limiter.bound ≡ l.initial.limiter.bound;
}

use Rattle.std.proofs.Common.{◌≡◌, ◌^◌, length}
use Rattle.graph_model.specs.Bounds.{AreUpTo}
use Rattle.engine_tests.proofs.answers.scaled_up.Given as goal

-- the values so far
abbrev pub invariant-loop-sample : goal.invariant-loop-sample
invariant-loop-sample l = record {
  count : length l.values ≡ l.sample-index;
  small : AreUpTo (2 ^ 31) l.values;
}

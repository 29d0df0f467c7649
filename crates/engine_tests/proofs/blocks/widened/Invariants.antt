use Rattle.std.proofs.Common.{◌^◌}
use Rattle.graph_model.specs.Bounds.{AreUpTo}
use Rattle.engine_tests.proofs.blocks.widened.Given as goal

abbrev pub invariant-loop-sample : goal.invariant-loop-sample
invariant-loop-sample l = AreUpTo (2 ^ 31) l.list.items

use Rattle.std.proofs.Common.{◌^◌}
use Rattle.graph_model.specs.Bounds.{AreUpTo}
use Rattle.engine_model.specs.Engines.{IsSame}
use Rattle.engine_tests.proofs.blocks.in_blocks.Given as goal

abbrev pub invariant-loop-cut : goal.invariant-loop-cut
invariant-loop-cut g l = IsSame l.fn.engine l.engine × AreUpTo (2 ^ 31) l.rest

use Rattle.std.proofs.Common.{◌≡◌, ◌^◌, length}
use Rattle.graph_model.specs.Bounds.{AreUpTo}
use Rattle.engine_tests.proofs.blocks.noise.Given as goal

abbrev pub invariant-loop : goal.invariant-loop
invariant-loop l = (length l.samples.items ≡ l.counter) × AreUpTo (2 ^ 31) l.samples.items

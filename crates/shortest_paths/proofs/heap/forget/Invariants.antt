use Rattle.std.proofs.Common.{◌≡◌, ◌++◌, replicate, drop, None}
use Rattle.shortest_paths.proofs.heap.forget.Given as goal

abbrev pub invariant-loop-index : goal.invariant-loop-index
invariant-loop-index l = l.best ≡ replicate l.index None ++ drop l.index l.fn.best

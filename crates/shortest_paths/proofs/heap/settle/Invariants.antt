use Rattle.std.proofs.Common.{ℕ, ◌+◌, ◌*◌, length}
use Rattle.std.specs.BinaryHeap.{heap_items, heap_len, IsHeap}
use Rattle.shortest_paths.specs.Search.{IsSearched, room}
use Rattle.shortest_paths.specs.Usable.{usable}
use Rattle.shortest_paths.specs.Nearest.{AllWait, AreWaiters, compare_waiters}
use Rattle.shortest_paths.proofs.heap.settle.Given as goal

abbrev pub invariant-loop-ahead : goal.invariant-loop-ahead
invariant-loop-ahead l = record {
  kept : (from : ℕ) → IsSearched (usable l.edges l.limits) from l.fn.best → IsSearched (usable l.edges l.limits) from l.best;
  waits : AllWait l.best l.numbers (heap_items l.waiting) (usable l.edges l.limits);
  order : IsHeap compare_waiters (heap_items l.waiting);
  inside : AreWaiters (length l.fn.best) l.numbers (heap_items l.waiting);
}

abbrev pub decreases-loop-ahead : goal.decreases-loop-ahead
decreases-loop-ahead l = 2 * room l.best + heap_len l.waiting

use Rattle.std.proofs.Common.{ℕ, ◌≤◌, length}
use Rattle.std.specs.BinaryHeap.{heap_items, heap_len}
use Rattle.shortest_paths.specs.Usable.{usable}
use Rattle.shortest_paths.specs.Leaving.{IsLatest}
use Rattle.shortest_paths.specs.Nearest.{IsRelaxed}
use Rattle.shortest_paths.proofs.TurnFacts.{steps_left, IsDoneFrom}
use Rattle.shortest_paths.proofs.heap.relax_from.Given as goal

abbrev pub invariant-loop-next : goal.invariant-loop-next
invariant-loop-next l = record {
  relaxed : IsRelaxed (usable l.edges l.limits) l.numbers l.fn.best l.best (heap_items l.fn.waiting) (heap_items l.waiting) (heap_len l.fn.waiting) (heap_len l.waiting);
  bound : ℕ;
  few : bound ≤ length l.edges;
  latest : IsLatest l.edges bound l.point l.next;
  done : IsDoneFrom (usable l.edges l.limits) l.numbers l.best (heap_items l.waiting) l.point bound;
}

abbrev pub decreases-loop-next : goal.decreases-loop-next
decreases-loop-next l = steps_left l.next

use Rattle.std.proofs.Common.{◌≡◌, ℕ, ◌<◌, ◌≤◌, ◌+ℤ◌, slice_index_or, None}
use Rattle.shortest_paths.specs.Walks.{number_of}
use Rattle.shortest_paths.specs.Search.{found}
use Rattle.shortest_paths.specs.Nearest.{IsCutAt}
use Rattle.shortest_paths.proofs.heap.cut.Given as goal

abbrev pub invariant-loop-point : goal.invariant-loop-point
invariant-loop-point l = record {
  done : (v : ℕ) → v < l.point → IsCutAt (found l.best v) (number_of l.fn.numbers v +ℤ l.limit) (number_of l.numbers v) (slice_index_or l.last v None);
  rest : (v : ℕ) → l.point ≤ v → number_of l.numbers v ≡ number_of l.fn.numbers v;
}

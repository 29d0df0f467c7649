use Rattle.std.proofs.Common.{◌≡◌, ℕ, ◌<◌, length, Some, slice_get}
use Rattle.shortest_paths.specs.declared.edges.Best.{Best}
use Rattle.shortest_paths.specs.Walks.{number_of}
use Rattle.shortest_paths.specs.Search.{found}
use Rattle.shortest_paths.proofs.search.read_off.Given as goal

abbrev pub invariant-loop-walk : goal.invariant-loop-walk
invariant-loop-walk l = record {
  least_len : length l.least ≡ l.walk-index;
  last_len : length l.last ≡ l.walk-index;
  costs : (v : ℕ) (b : Best) → v < l.walk-index → found l.best v ≡ Some b → number_of l.least v ≡ b.cost;
  lasts : (v : ℕ) (b : Best) → v < l.walk-index → found l.best v ≡ Some b → slice_get l.last v ≡ Some b.last;
}

use Rattle.std.proofs.Common.{◌≡◌, ℕ, ◌<◌, get_or, true, false}
use Rattle.shortest_paths.specs.declared.edges.Edge.{Edge}
use Rattle.shortest_paths.specs.Search.{IsSettled, IsSearched, room}
use Rattle.shortest_paths.proofs.search.relax_all.Given as goal

abbrev pub invariant-loop-index : goal.invariant-loop-index
invariant-loop-index l = record {
  kept : (from : ℕ) → IsSearched l.edges from l.fn.best → IsSearched l.edges from l.best;
  falls : l.changed ≡ true → room l.best < room l.fn.best;
  same : l.changed ≡ false → l.best ≡ l.fn.best;
  settled : l.changed ≡ false → (j : ℕ) (d : Edge) → j < l.index → IsSettled l.best (get_or l.edges j d);
}

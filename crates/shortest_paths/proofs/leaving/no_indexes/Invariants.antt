use Rattle.std.proofs.Common.{◌≡◌, vec_len, replicate, None}
use Rattle.shortest_paths.proofs.leaving.no_indexes.Given as goal

abbrev pub invariant-loop : goal.invariant-loop
invariant-loop l = record { len : vec_len l.indexes ≡ l.counter; items : l.indexes.items ≡ replicate l.counter None }

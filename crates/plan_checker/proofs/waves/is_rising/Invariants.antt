use Rattle.std.proofs.Common.{ℕ, ◌<◌, ◌+◌, map}
use Rattle.std.specs.Prelude.{slice_index}
use Rattle.graph_model.specs.declared.graph.Uid.{Uid}
use Rattle.plan_checker.proofs.waves.is_rising.Given as goal

abbrev pub invariant-loop-k : goal.invariant-loop-k
invariant-loop-k l = (j : ℕ) → j + 1 < l.k → slice_index (map (λ (u : Uid). u.0) l.nodes) j < slice_index (map (λ (u : Uid). u.0) l.nodes) (j + 1)

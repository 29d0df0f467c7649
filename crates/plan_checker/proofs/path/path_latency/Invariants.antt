use Rattle.std.proofs.Common.{◌≡◌, ◌-◌, ◌*◌, ◌≤◌, take}
use Rattle.std.specs.Prelude.{sum_by}
use Rattle.graph_model.specs.Graphs.{latency_at}
use Rattle.plan_checker.proofs.path.path_latency.Given as goal

abbrev pub invariant-loop-k : goal.invariant-loop-k
invariant-loop-k l = (l.sum ≡ sum_by (λ u. latency_at l.graph u.0) (take (l.k - 1) l.path)) × (l.sum ≤ 4294967295 * (l.k - 1))

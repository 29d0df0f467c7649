use Rattle.std.proofs.Common.{◌≡◌, take, filter}
use Rattle.graph_model.specs.Paths.{is_live}
use Rattle.plan_checker.proofs.graphs.live_connections.Given as goal

abbrev pub invariant-loop-k : goal.invariant-loop-k
invariant-loop-k l = l.live.items ≡ filter (λ c. is_live l.g c.dst.0) (take l.k l.g.connections)

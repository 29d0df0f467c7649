use Rattle.std.proofs.Common.{◌≡◌, length}
use Rattle.min_cost_flow.specs.Admissible.{AreCurrent}
use Rattle.min_cost_flow.proofs.admissible.Trail.new.Given as goal

abbrev pub invariant-loop-point : goal.invariant-loop-point
invariant-loop-point l = record { each : length l.current.items ≡ l.point; current : AreCurrent l.walks.residual.edges.items l.current.items }

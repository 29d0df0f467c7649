use Rattle.std.proofs.Common.{◌<◌, pos, ◌<ℤ◌, length}
use Rattle.shortest_paths.specs.Walks.{number_of}
use Rattle.min_cost_flow.proofs.solver.excess_point.Given as goal

abbrev pub invariant-loop-point : goal.invariant-loop-point
invariant-loop-point l = record { inside : l.first < length l.unmet; below : number_of l.unmet l.first <ℤ pos 0 }

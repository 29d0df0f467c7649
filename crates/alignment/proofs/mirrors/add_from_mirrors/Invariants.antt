use Rattle.std.proofs.Common.{◌≡◌, ◌-◌, ◌++◌, map}
use Rattle.std.specs.List.{range_with_len}
use Rattle.alignment.specs.Mirrors.{arc_from_mirror}
use Rattle.alignment.proofs.mirrors.add_from_mirrors.Given as goal

-- the arcs so far
abbrev pub invariant-loop-point : goal.invariant-loop-point
invariant-loop-point l = l.arcs.items ≡ l.initial.arcs.items ++ map (arc_from_mirror l.latency) (range_with_len l.points (l.point - l.points))

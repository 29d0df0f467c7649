use Rattle.std.proofs.Common.{◌≡◌, ◌≤◌, ◌-◌, ◌++◌, map}
use Rattle.std.specs.List.{range_with_len}
use Rattle.alignment.specs.Links.{arc_from_root}
use Rattle.alignment.proofs.network.add_from_root.Given as goal

-- the arcs so far
abbrev pub invariant-loop-point : goal.invariant-loop-point
invariant-loop-point l = record {
  some : 1 ≤ l.point;
  made : l.arcs.items ≡ l.initial.arcs.items ++ map arc_from_root (range_with_len 1 (l.point - 1));
}

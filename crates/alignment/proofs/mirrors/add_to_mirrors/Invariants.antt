use Rattle.std.proofs.Common.{◌≡◌, ◌++◌, map, take}
use Rattle.alignment.specs.Mirrors.{arc_to_mirror}
use Rattle.alignment.proofs.mirrors.add_to_mirrors.Given as goal

-- the arcs so far
abbrev pub invariant-loop-link : goal.invariant-loop-link
invariant-loop-link l = l.arcs.items ≡ l.initial.arcs.items ++ map (arc_to_mirror l.graph l.points) (take l.link-index l.links)

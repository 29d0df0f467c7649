use Rattle.std.proofs.Common.{◌≡◌, map, take}
use Rattle.alignment.specs.Values.{read_of}
use Rattle.alignment.proofs.values.values.Given as goal

-- the values so far, as they come
abbrev pub invariant-loop-link : goal.invariant-loop-link
invariant-loop-link l = l.values.items ≡ map (read_of l.graph) (take l.link-index l.links)

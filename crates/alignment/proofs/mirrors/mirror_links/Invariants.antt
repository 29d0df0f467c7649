use Rattle.std.proofs.Common.{◌≡◌, map, take}
use Rattle.alignment.specs.Mirrors.{mirror_link}
use Rattle.alignment.specs.Values.{port}
use Rattle.alignment.specs.declared.values.Value.{Value}
use Rattle.alignment.proofs.mirrors.mirror_links.Given as goal

-- the links so far
abbrev pub invariant-loop-index : goal.invariant-loop-index
invariant-loop-index l = l.links.items ≡ map (λ (x : Value). mirror_link l.graph l.points (port x)) (take l.index l.values)

use Rattle.std.proofs.Common.{◌≡◌, map, take}
use Rattle.alignment.specs.Mirrors.{line_of_link}
use Rattle.alignment.proofs.shared.lines.Given as goal

-- the lines so far
abbrev pub invariant-loop-link : goal.invariant-loop-link
invariant-loop-link l = l.lines ≡ map (line_of_link l.values l.potentials) (take l.link-index l.links)

use Rattle.std.proofs.Common.{◌≡◌, map, take}
use Rattle.alignment.specs.Places.{line_of}
use Rattle.alignment.proofs.placed.lines.Given as goal

-- the lines so far
abbrev pub invariant-loop-link : goal.invariant-loop-link
invariant-loop-link l = l.lines ≡ map (line_of l.potentials) (take l.link-index l.links)

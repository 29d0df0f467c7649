use Rattle.std.proofs.Common.{◌≡◌, ◌++◌, drop}
use Rattle.alignment.specs.Links.{links_from, links_of}
use Rattle.alignment.proofs.links.links.Given as goal

-- the links so far, and those that are to come
abbrev pub invariant-loop-index : goal.invariant-loop-index
invariant-loop-index l = l.links.items ++ links_from l.graph l.points l.index (drop l.index l.graph.connections) ≡ links_of l.graph l.points

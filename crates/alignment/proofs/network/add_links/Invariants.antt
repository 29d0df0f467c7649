use Rattle.std.proofs.Common.{◌≡◌, ◌++◌, map, take}
use Rattle.alignment.specs.Links.{arc_along}
use Rattle.alignment.proofs.network.add_links.Given as goal

-- the arcs so far
abbrev pub invariant-loop-link : goal.invariant-loop-link
invariant-loop-link l = l.arcs.items ≡ l.initial.arcs.items ++ map arc_along (take l.link-index l.links)

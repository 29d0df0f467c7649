-- The first of them are connected.
use Rattle.std.proofs.Common.{◌≡◌, ◌++◌, map, take}
use Rattle.graph_gen.specs.Generated.{ending}
use Rattle.graph_gen.proofs.joining.connect_ends.Given as goal

abbrev pub invariant-loop-uid : goal.invariant-loop-uid
invariant-loop-uid l = l.connections ≡ l.initial.connections ++ map ending (take l.uid-index l.uid-items)

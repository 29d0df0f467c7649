use Rattle.std.proofs.Common.{◌≡◌, take}
use Rattle.alignment.specs.Carried.{carried_by}
use Rattle.alignment.proofs.carried.carried.Given as goal

-- what the arcs so far carry
abbrev pub invariant-loop-k : goal.invariant-loop-k
invariant-loop-k l = l.carried ≡ carried_by l.points (take l.k l.arcs) (take l.k l.flow)

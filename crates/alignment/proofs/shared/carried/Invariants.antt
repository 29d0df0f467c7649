use Rattle.std.proofs.Common.{◌≡◌, take}
use Rattle.plan_model.specs.SharedFlows.{at_node}
use Rattle.alignment.specs.Numbered.{entries_by}
use Rattle.alignment.specs.SharedNetworks.{point_entry}
use Rattle.alignment.proofs.shared.carried.Given as goal

-- what the arcs so far carry
abbrev pub invariant-loop-k : goal.invariant-loop-k
invariant-loop-k l = l.carried ≡ entries_by point_entry (at_node 0) l.names (take l.k l.arcs) (take l.k l.flow)

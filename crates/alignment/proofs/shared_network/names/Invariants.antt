use Rattle.std.proofs.Common.{◌≡◌, ◌++◌, map, take}
use Rattle.plan_model.specs.SharedFlows.{at_node, mirror}
use Rattle.alignment.specs.Values.{port}
use Rattle.alignment.specs.declared.values.Value.{Value}
use Rattle.alignment.proofs.shared_network.names.Given as goal

-- the root and the live nodes so far
abbrev pub invariant-loop-uid : goal.invariant-loop-uid
invariant-loop-uid l = l.names.items ≡ map at_node (take l.uid-index l.points)

-- and after them the mirrors so far
abbrev pub invariant-loop-value : goal.invariant-loop-value
invariant-loop-value l = l.names.items ≡ map at_node l.points ++ map (λ (x : Value). mirror (port x)) (take l.value-index l.values)

use Rattle.std.proofs.Common.{◌≡◌, ◌++◌, map, take}
use Rattle.plan_model.specs.Flows.{along}
use Rattle.plan_checker.specs.Networks.{difference, AreSmall}
use Rattle.plan_checker.proofs.network.add_along.Given as goal

abbrev pub invariant-loop-connection : goal.invariant-loop-connection
invariant-loop-connection l = record {
  arcs : map difference l.arcs.items ≡ map difference l.initial.arcs.items ++ map (along l.g) (take l.connection-index l.connections);
  small : AreSmall l.initial.arcs.items → AreSmall l.arcs.items;
}

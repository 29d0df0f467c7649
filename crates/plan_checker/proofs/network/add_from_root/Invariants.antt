use Rattle.std.proofs.Common.{◌≡◌, ◌++◌, map, take}
use Rattle.plan_model.specs.Flows.{from_root}
use Rattle.plan_checker.specs.Networks.{difference, AreSmall}
use Rattle.plan_checker.proofs.network.add_from_root.Given as goal

abbrev pub invariant-loop-uid : goal.invariant-loop-uid
invariant-loop-uid l = record {
  arcs : map difference l.arcs.items ≡ map difference l.initial.arcs.items ++ map from_root (take l.uid-index l.live);
  small : AreSmall l.initial.arcs.items → AreSmall l.arcs.items;
}

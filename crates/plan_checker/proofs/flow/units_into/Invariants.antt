use Rattle.std.proofs.Common.{◌≡◌, ◌*◌, ◌≤◌, take}
use Rattle.plan_model.specs.Flows.{units_in}
use Rattle.plan_checker.proofs.flow.units_into.Given as goal

-- the sum so far
abbrev pub invariant-loop-arc : goal.invariant-loop-arc
invariant-loop-arc l = record {
  value : l.sum ≡ units_in (take l.arc-index l.arcs) l.point;
  size : l.sum ≤ 18446744073709551615 * l.arc-index;
}

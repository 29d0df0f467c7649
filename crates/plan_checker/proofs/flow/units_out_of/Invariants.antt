use Rattle.std.proofs.Common.{◌≡◌, ◌*◌, ◌≤◌, take}
use Rattle.plan_model.specs.Flows.{units_out}
use Rattle.plan_checker.proofs.flow.units_out_of.Given as goal

-- the sum so far
abbrev pub invariant-loop-arc : goal.invariant-loop-arc
invariant-loop-arc l = record {
  value : l.sum ≡ units_out (take l.arc-index l.arcs) l.point;
  size : l.sum ≤ 18446744073709551615 * l.arc-index;
}

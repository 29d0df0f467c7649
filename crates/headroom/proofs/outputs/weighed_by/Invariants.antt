use Rattle.std.proofs.Common.{◌≡◌, ◌≤◌, ◌*◌, ◌^◌, take}
use Rattle.graph_model.specs.Bounds.{weighed}
use Rattle.headroom.proofs.outputs.weighed_by.Given as goal

-- the sum so far
abbrev pub invariant-loop-input : goal.invariant-loop-input
invariant-loop-input l = record {
  value : l.sum ≡ weighed (take l.input l.gains) (take l.input l.bounds);
  small : l.sum ≤ l.input * 2 ^ 95;
}

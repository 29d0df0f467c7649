use Rattle.std.proofs.Common.{◌≡◌, ◌≤◌, ◌*◌, ◌^◌, take}
use Rattle.graph_model.specs.Bounds.{weight}
use Rattle.headroom.proofs.outputs.weight_of.Given as goal

-- the sum so far
abbrev pub invariant-loop-number : goal.invariant-loop-number
invariant-loop-number l = record {
  value : l.sum ≡ weight (take l.number-index l.numbers);
  small : l.sum ≤ l.number-index * 2 ^ 31;
}

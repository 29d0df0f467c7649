use Rattle.std.proofs.Common.{◌≡◌, ◌≤◌, ◌*◌, ◌^◌, take}
use Rattle.std.specs.Prelude.{unsigned_abs}
use Rattle.min_cost_flow.specs.Laws.{weighted}
use Rattle.min_cost_flow.specs.declared.network.Arc.{Arc}
use Rattle.alignment.proofs.carried.weight.Given as goal

-- the weight so far
abbrev pub invariant-loop-k : goal.invariant-loop-k
invariant-loop-k l = record {
  value : l.sum ≡ weighted (λ (a : Arc). a.least) (take l.k l.arcs) (take l.k l.flow);
  size : unsigned_abs l.sum ≤ l.k * 2 ^ 94;
}

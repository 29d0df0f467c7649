use Rattle.std.proofs.Common.{◌≡◌, map, take}
use Rattle.buffer_plan.specs.Packed.{IsPacked}
use Rattle.buffer_plan.specs.declared.packing.Placed.{Placed}
use Rattle.buffer_plan.proofs.packing.pack.Given as goal

abbrev pub invariant-loop-life : goal.invariant-loop-life
invariant-loop-life l = record {
  values : map (λ (z : Placed). z.life) l.packing.placed.items ≡ take l.life-index l.life-items;
  packed : IsPacked l.packing.holders.items l.packing.placed.items l.packing.peak;
}

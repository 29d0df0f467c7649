use Rattle.std.proofs.Common.{◌≡◌, map, length}
use Rattle.std.specs.List.{range_with_len}
use Rattle.graph_model.specs.Bounds.{weighed}
use Rattle.graph_model.specs.Filters.{gains_to}
use Rattle.graph_model.specs.Rounding.{rounded_nat}
use Rattle.headroom.specs.Loud.{kept}
use Rattle.headroom.proofs.outputs.mixed.Given as goal

-- the outputs so far
abbrev pub invariant-loop-output : goal.invariant-loop-output
invariant-loop-output l = record {
  count : l.ins ≡ length l.bounds;
  outputs : l.mixed ≡ map (λ o. kept (rounded_nat (weighed (gains_to (length l.bounds) l.fn.gains o) l.bounds) 16)) (range_with_len 0 l.output);
}

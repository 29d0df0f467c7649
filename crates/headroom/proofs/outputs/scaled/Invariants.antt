use Rattle.std.proofs.Common.{◌≡◌, ◌*◌, map, take}
use Rattle.graph_model.specs.Rounding.{rounded_nat}
use Rattle.headroom.specs.Loud.{kept}
use Rattle.headroom.proofs.outputs.scaled.Given as goal

abbrev pub invariant-loop-bound : goal.invariant-loop-bound
invariant-loop-bound l = l.outs ≡ map (λ b. kept (rounded_nat (l.fn.factor * b) l.fn.shift)) (take l.bound-index l.bounds)

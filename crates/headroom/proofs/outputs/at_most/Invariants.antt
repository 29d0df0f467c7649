use Rattle.std.proofs.Common.{◌≡◌, min, map, take}
use Rattle.headroom.proofs.outputs.at_most.Given as goal

abbrev pub invariant-loop-bound : goal.invariant-loop-bound
invariant-loop-bound l = l.outs ≡ map (λ b. min b l.fn.threshold) (take l.bound-index l.bounds)

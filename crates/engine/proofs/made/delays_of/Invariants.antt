use Rattle.std.proofs.Common.{◌≡◌, map, take}
use Rattle.engine.proofs.made.delays_of.Given as goal

abbrev pub invariant-loop-line : goal.invariant-loop-line
invariant-loop-line l = l.list.items ≡ map (λ a. a.delay) (take l.line-index l.plan.lines)

use Rattle.std.proofs.Common.{◌≡◌, map, take}
use Rattle.buffer_plan.specs.Packed.{home_of}
use Rattle.buffer_plan.proofs.orders.homes_of.Given as goal

abbrev pub invariant-loop-it : goal.invariant-loop-it
invariant-loop-it l = l.homes ≡ map home_of (take l.it-index l.placed)

use Rattle.std.proofs.Common.{◌≡◌, replicate}
use Rattle.headroom.specs.Found.{no_bound}
use Rattle.headroom.proofs.found.none_found.Given as goal

abbrev pub invariant-loop : goal.invariant-loop
invariant-loop l = l.found.items ≡ replicate l.counter no_bound

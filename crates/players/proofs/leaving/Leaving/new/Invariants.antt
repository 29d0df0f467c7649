use Rattle.std.proofs.Common.{◌≡◌, replicate}
use Rattle.players.specs.Reads.{lengths_of}
use Rattle.players.proofs.leaving.Leaving.new.Given as goal

abbrev pub invariant-loop : goal.invariant-loop
invariant-loop l = lengths_of l.lines.items ≡ replicate l.counter 8192

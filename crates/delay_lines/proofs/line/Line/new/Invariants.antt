use Rattle.std.proofs.Common.{◌≡◌, replicate, pos}
use Rattle.delay_lines.proofs.line.Line.new.Given as goal

abbrev pub invariant-loop : goal.invariant-loop
invariant-loop l = (l.held.items ≡ replicate l.counter (pos 0)) × (l.held.capacity ≡ l.fn.delay)

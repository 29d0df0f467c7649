use Rattle.engine.proofs.WrittenFacts.{WritingRow}
use Rattle.engine.proofs.output.write_row.Given as goal

abbrev pub invariant-loop-k : goal.invariant-loop-k
invariant-loop-k l = WritingRow l.line l.frames l.channel l.channels l.fn.output l.k l.output

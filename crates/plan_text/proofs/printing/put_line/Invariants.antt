use Rattle.std.proofs.Common.{take}
use Rattle.std.specs.Prelude.{string_bytes}
use Rattle.plan_text.proofs.PrintLaws.{IsWrittenTo}
use Rattle.plan_text.proofs.printing.put_line.Given as goal

abbrev pub invariant-loop-number : goal.invariant-loop-number
invariant-loop-number l = IsWrittenTo l.fn.word (string_bytes l.fn.text) (string_bytes l.text) (take l.number-index l.numbers)

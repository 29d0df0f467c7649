use Rattle.std.proofs.Common.{map, take}
use Rattle.std.specs.Prelude.{string_bytes}
use Rattle.plan_text.specs.Printing.{Appends}
use Rattle.plan_text.specs.Texts.{wave_line}
use Rattle.plan_text.proofs.printing.put_waves.Given as goal

abbrev pub invariant-loop-row : goal.invariant-loop-row
invariant-loop-row l = Appends (string_bytes l.initial.text) (string_bytes l.text) (map wave_line (take l.row-index l.rows))

use Rattle.std.proofs.Common.{length, map}
use Rattle.plan_text.specs.declared.word.Word.TheVariants as word
use Rattle.plan_text.specs.Reading.{HasReadLines}
use Rattle.plan_text.specs.Texts.{wave_line}
use Rattle.plan_text.proofs.line.Lines.waves.Given as goal

abbrev pub decreases-loop-rows : goal.decreases-loop-rows
decreases-loop-rows l = length l.self.rest.now

abbrev pub invariant-loop-rows : goal.invariant-loop-rows
invariant-loop-rows l = HasReadLines word.Wave l.initial.self.rest.now l.initial.self.count l.self.rest.now l.self.count (map wave_line l.rows)

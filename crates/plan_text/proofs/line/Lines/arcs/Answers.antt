use Rattle.std.proofs.Common.{◌∷◌, [], map}
use Rattle.std.proofs.lemmas.List.{map-append}
use Rattle.plan_text.specs.declared.word.Word.TheVariants as word
use Rattle.plan_text.specs.Texts.{arc_line}
use Rattle.plan_text.proofs.LineLaws.{one_more_read}
use Rattle.plan_text.proofs.line.Lines.arcs.Goals as goal

pub loop-rows-preserved : goal.loop-rows-preserved
loop-rows-preserved c =
    let read = rw c.in-Some.is at c.in_ok-numbers.ensures in
    rw (c.in_ok-push.ensures.ok, map-append arc_line c.loop-rows.rows (c.arc_of.result ∷ []))
    (one_more_read word.Arc c.args.self.now.rest.now c.args.self.now.count c.loop-rows.self.rest.now c.loop-rows.self.count (map arc_line c.loop-rows.rows) (arc_line c.arc_of.result)
    c.in-Some.numbers c.next.new.self.rest.now c.next.new.self.count c.loop-rows.invariant read (rw c.as_slice.ensures at c.arc_of.ensures))

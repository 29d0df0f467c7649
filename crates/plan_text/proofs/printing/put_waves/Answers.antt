use Rattle.std.proofs.Common.{◌∷◌, [], subst}
use Rattle.std.specs.Prelude.{string_bytes}
use Rattle.plan_model.specs.declared.schedule.Wave.{Wave}
use Rattle.plan_text.specs.Printing.{Appends}
use Rattle.plan_text.specs.Texts.{wave_line}
use Rattle.plan_text.proofs.PrintLaws.{row_appended}
use Rattle.plan_text.proofs.printing.put_waves.Goals as goal

pub loop-row-preserved : goal.loop-row-preserved
loop-row-preserved c =
    row_appended wave_line c.args.rows.now c.loop-row.row-index c.row-item.result (string_bytes c.args.text.now) (string_bytes c.loop-row.text) (string_bytes c.put_wave.new.text)
    c.loop-row.invariant c.loop-row-test.true
    (subst (λ (w : Wave). Appends (string_bytes c.loop-row.text) (string_bytes c.put_wave.new.text) (wave_line w ∷ [])) c.row-item.is c.in_ok-put_wave.ensures)

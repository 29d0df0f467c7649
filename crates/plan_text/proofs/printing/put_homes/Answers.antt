use Rattle.std.specs.Prelude.{string_bytes}
use Rattle.plan_text.specs.Texts.{home_line}
use Rattle.plan_text.proofs.PrintLaws.{row_appended}
use Rattle.plan_text.proofs.printing.put_homes.Goals as goal

pub loop-row-preserved : goal.loop-row-preserved
loop-row-preserved c =
    row_appended home_line c.args.rows.now c.loop-row.row-index _ (string_bytes c.args.text.now) (string_bytes c.loop-row.text) (string_bytes c.put_home.new.text) c.loop-row.invariant
    c.loop-row-test.true c.in_ok-put_home.ensures

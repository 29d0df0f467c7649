use Rattle.std.proofs.Common.{◌∙◌, sym}
use Rattle.plan_text.proofs.DigitLaws.{value_parsed, digits_utf8}
use Rattle.plan_text.proofs.number.value.Goals as goal

pub returns-in-Ok : goal.returns-in-Ok
returns-in-Ok c = c.ok.ensures.value ∙ value_parsed c.args.digits.now c.parse.result (rw c.in-Ok.ensures.cases.0 at c.parse.ensures.value.0) c.requires
    (sym c.is_zero_led.ensures ∙ c.if-is_zero_led.false)

pub returns-in-Err : goal.returns-in-Err
returns-in-Err c = absurd (c.in-Err.ensures.cases.0 (digits_utf8 c.args.digits.now c.requires))

use Rattle.plan_text.proofs.DigitLaws.{front_digits, number_found, number_missing}
use Rattle.plan_text.proofs.number.number.Goals as goal

pub value-requires : goal.value-requires
value-requires c = rw c.digits_first.ensures.digits (front_digits c.args.text.now)

pub returns-in-Some : goal.returns-in-Some
returns-in-Some c = number_found c.args.text.now c.digits_first.result.0.now _ _ c.digits_first.ensures.digits c.digits_first.ensures.rest c.in-Some.ensures

pub returns-in-None : goal.returns-in-None
returns-in-None c = number_missing c.args.text.now c.digits_first.result.0.now c.digits_first.ensures.digits c.in-None.ensures

use Rattle.plan_text.proofs.NumberLaws.{none_after, none_bad, none_other, nil_of, none_nil, read_one}
use Rattle.plan_text.proofs.number.numbers.Goals as goal

pub returns-then-first-ne32 : goal.returns-then-first-ne32
returns-then-first-ne32 c = none_after c.args.text.now c.loop-first.found c.loop-first.rest.now c.loop-first.invariant
    (rw c.in-Some.ensures.cases.0 (none_other c.in-Some.first.now c.in-Some.after.now c.if-first-eq10.false c.if-first-ne32.true))

pub returns-in_default-number : goal.returns-in_default-number
returns-in_default-number c = none_after c.args.text.now c.loop-first.found c.loop-first.rest.now c.loop-first.invariant
    (rw (c.in-Some.ensures.cases.0, c.if-first-ne32.false) (none_bad c.in-Some.after.now c.in_default-number.ensures))

pub loop-first-preserved : goal.loop-first-preserved
loop-first-preserved c =
    rw c.in_ok-push.ensures.ok (read_one c.args.text.now c.loop-first.found c.in-Some.after.now c.in-Some-number.next.now c.in-Some-number.number
    (rw (c.in-Some.ensures.cases.0, c.if-first-ne32.false) at c.loop-first.invariant) c.in-Some-number.ensures)

pub returns : goal.returns
returns c = none_after c.args.text.now c.loop-first.found c.loop-first.rest.now c.loop-first.invariant
    (rw (nil_of c.loop-first.rest.now c.in_default.ensures.cases) none_nil)

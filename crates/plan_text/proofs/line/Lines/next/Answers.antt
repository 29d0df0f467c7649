use Rattle.std.proofs.Common.{◌∙◌, ◌≡◌, sym, refl}
use Rattle.plan_text.specs.Lines.{fits}
use Rattle.plan_text.proofs.LineLaws.{has_read, no_line_fit, no_line_numbers}
use Rattle.plan_text.proofs.line.Lines.next.Goals as goal

pub returns-in_default-2 : goal.returns-in_default-2
returns-in_default-2 c = (
  no_line_numbers c.args.word c.args.self.now.rest.now c.in-Some.text.now (rw (c.as_bytes.ensures.value ∙ c.text.ensures) at c.in-Some.ensures.cases.1) (rw c.in_default-2.is at c.in_ok-numbers.ensures),
  refl,
  refl,
)

pub returns-then-not-is_fitting : goal.returns-then-not-is_fitting
returns-then-not-is_fitting c =
    let fit : c.is_fitting.result ≡ fits c.args.word c.in-Some-2.numbers = rw c.as_slice.ensures at c.is_fitting.ensures in (
      no_line_fit c.args.word c.args.self.now.rest.now c.in-Some.text.now c.in-Some-2.numbers c.in-Some-2.rest.now (rw (c.as_bytes.ensures.value ∙ c.text.ensures) at c.in-Some.ensures.cases.1)
          (rw c.in-Some-2.is at c.in_ok-numbers.ensures) (sym fit ∙ c.if-not-is_fitting.true),
      refl,
      refl,
    )

pub returns : goal.returns
returns c =
    let fit : c.is_fitting.result ≡ fits c.args.word c.in-Some-2.numbers = rw c.as_slice.ensures at c.is_fitting.ensures in
    has_read c.args.word c.args.self.now.rest.now c.in-Some.text.now c.in-Some-2.numbers c.in-Some-2.rest.now c.args.self.now.count _ (rw (c.as_bytes.ensures.value ∙ c.text.ensures) at c.in-Some.ensures.cases.0)
    (rw (c.as_bytes.ensures.value ∙ c.text.ensures) at c.in-Some.ensures.cases.1) (rw c.in-Some-2.is at c.in_ok-numbers.ensures) (sym fit ∙ c.if-not-is_fitting.false) refl

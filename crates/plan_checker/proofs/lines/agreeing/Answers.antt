use Rattle.std.proofs.Common.{◌≡◌, ◌∙◌, length, arith, inl, inr}
use Rattle.std.proofs.lemmas.Bool.{cases_lt}
use Rattle.plan_model.specs.Places.{same_line}
use Rattle.plan_checker.proofs.PrefixFacts.{first_ends, second_ends}
use Rattle.plan_checker.proofs.lines.agreeing.Goals as goal

pub returns : goal.returns
returns c =
    let i = c.loop-place.place in
    let end : c.min-shorter.result ≡ i = omega arith in
    elim (cases_lt i (length c.args.lines.now)) [
      | inl less ↦ end ∙ second_ends same_line c.args.lines.now c.args.expected.now i c.loop-place.invariant (omega arith)
      | inr le ↦ end ∙ first_ends same_line c.args.lines.now c.args.expected.now i c.loop-place.invariant (omega arith)
    ]

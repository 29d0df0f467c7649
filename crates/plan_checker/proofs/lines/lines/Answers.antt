use Rattle.std.proofs.Common.{length, ap, arith}
use Rattle.plan_model.specs.Places.{same_line}
use Rattle.plan_checker.proofs.LineFacts.{line_is, line_itself}
use Rattle.plan_checker.proofs.PrefixFacts.{agree_whole, same_agree}
use Rattle.plan_checker.proofs.lines.lines.Goals as goal
use Rattle.plan_checker.proofs.lines.lines.Goals.{else-agreeing-lines-via-then-agreeing-lines+else-agreeing-expected, else-agreeing-lines-via-else-agreeing-lines}

pub returns-then-agreeing-expected : goal.returns-then-agreeing-expected
returns-then-agreeing-expected c = agree_whole same_line line_is line_itself c.args.lines.now c.args.expected.now (omega arith) (omega arith)

pub returns : goal.returns
returns c = (
  (λ is.
      let whole = same_agree same_line line_is line_itself c.args.lines.now c.args.expected.now is in
      let size = ap length is in
      elim c.else-agreeing-lines.branch [
        | else-agreeing-lines-via-then-agreeing-lines+else-agreeing-expected w ↦ w.if-agreeing-expected.false (omega arith)
        | else-agreeing-lines-via-else-agreeing-lines w ↦ w.if-agreeing-lines.false (omega arith)
      ]),
  c.agreeing-agreeing.ensures,
)

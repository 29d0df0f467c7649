use Rattle.std.proofs.Common.{◌∙◌, subst}
use Rattle.std.specs.Prelude.{IfOk}
use Rattle.plan_model.specs.Buffers.{IsAssignment}
use Rattle.plan_model.specs.Lives.{lives_of, ports_of}
use Rattle.plan_model.specs.Places.{IsFirstBad, IsHomeAt}
use Rattle.plan_checker.specs.Answers.{Judges}
use Rattle.plan_checker.proofs.judged.judge_channels.Goals as goal

pub returns : goal.returns
returns c =
    let n = c.args.plan.now.channels in
    let lives = lives_of c.args.g.now c.args.plan.now.waves (ports_of c.args.plan.now.homes) in
    subst (λ hs. IfOk c.channels.result (λ answer. Judges answer (IsAssignment lives hs n) (IsFirstBad (IsHomeAt lives hs n)))) c.as_slice-homes.ensures
    (subst (λ xs. IfOk c.channels.result (λ answer. Judges answer (IsAssignment xs c.as_slice-homes.result.now n) (IsFirstBad (IsHomeAt xs c.as_slice-homes.result.now n))))
    (c.as_slice.ensures ∙ c.in_ok-lives.ensures.lives) c.channels.ensures)

use Rattle.std.proofs.Common.{◌≡◌, ◌≤◌, ◌∙◌, length, map}
use Rattle.std.specs.List.{zip}
use Rattle.std.proofs.lemmas.Result.{IfOk-weaker}
use Rattle.plan_model.specs.Buffers.{AreLives}
use Rattle.plan_model.specs.Lives.{values}
use Rattle.plan_model.specs.SharedLives.{shared_lives_of}
use Rattle.lifetimes.proofs.LineFacts.{lives_with_lines, shared_few, shared_usable, with_line}
use Rattle.lifetimes.proofs.lives_shared.Goals as goal

pub returns-clause-lives : goal.returns-clause-lives
returns-clause-lives c =
    IfOk-weaker c.with_lines.result _ (λ lives. lives ≡ shared_lives_of c.args.g.now c.args.waves.now c.args.lines.now (values c.args.g.now))
    (λ lives is. lives_with_lines c.args.g.now c.args.waves.now c.args.lines.now c.requires.lines c.in_ok-unlined.unlined lives c.in_ok-unlined.ensures.lives
    (is ∙ (λ i. map with_line (zip (c.as_slice.ensures i) (c.as_slice-2.ensures i))))) c.with_lines.ensures

pub returns-clause-usable : goal.returns-clause-usable
returns-clause-usable c =
    IfOk-weaker c.with_lines.result (λ lives. lives ≡ shared_lives_of c.args.g.now c.args.waves.now c.args.lines.now (values c.args.g.now)) (λ lives. AreLives lives (length c.args.waves.now))
    (λ lives is. shared_usable c.args.g.now c.args.waves.now c.args.lines.now c.requires.lines c.graph.ensures.sound c.requires.schedule lives is) (returns-clause-lives c)

pub returns-clause-few : goal.returns-clause-few
returns-clause-few c =
    IfOk-weaker c.with_lines.result (λ lives. lives ≡ shared_lives_of c.args.g.now c.args.waves.now c.args.lines.now (values c.args.g.now)) (λ lives. length lives ≤ 8192)
    (λ lives is. shared_few c.args.g.now c.args.waves.now c.args.lines.now c.requires.lines c.in_ok-unlined.unlined lives c.in_ok-unlined.ensures.lives is c.in_ok-unlined.ensures.few) (returns-clause-lives c)

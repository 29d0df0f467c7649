use Rattle.std.proofs.Common.{ℕ, ◌∙◌, sym, subst}
use Rattle.plan_model.specs.Flows.{IsPoint, IsBalanced}
use Rattle.plan_model.specs.Places.{IsFirstBad}
use Rattle.plan_model.specs.Rules.{AreLiveNodes}
use Rattle.plan_checker.specs.Answers.{Judges}
use Rattle.plan_checker.proofs.judged.judge_need.Goals as goal

pub returns : goal.returns
returns c =
    let g = c.args.g.now in
    subst (λ xs. Judges c.need.result ((v : ℕ) → IsPoint g v → IsBalanced g xs v) (IsFirstBad (λ v. IsPoint g v → IsBalanced g xs v))) c.as_slice.ensures
    (c.need.ensures g (subst (AreLiveNodes g) (sym c.deref.ensures.value) c.in_ok-live.ensures.live) (c.deref-2.ensures.value ∙ c.in_ok-connections.ensures))

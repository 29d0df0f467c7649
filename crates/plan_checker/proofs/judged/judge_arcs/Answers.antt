use Rattle.std.proofs.Common.{◌≡◌, ◌∙◌, map, ap, subst, arith}
use Rattle.plan_model.specs.Certified.{AreArcs}
use Rattle.plan_model.specs.Places.{IsFirstBad, IsArcAt}
use Rattle.plan_model.specs.Rules.{path_latency}
use Rattle.plan_checker.specs.Answers.{Judges}
use Rattle.plan_checker.specs.Networks.{difference}
use Rattle.plan_checker.proofs.PathFacts.{path_is_short}
use Rattle.plan_checker.proofs.judged.judge_arcs.Goals as goal

pub network-requires-clause-small : goal.network-requires-clause-small
network-requires-clause-small c =
    let short = path_is_short c.args.g.now c.args.plan.now.path c.requires.sound c.requires.path in
    let long : path_latency c.args.g.now c.args.plan.now.path ≡ c.args.plan.now.latency = c.requires.longest in
    omega arith

pub returns : goal.returns
returns c =
    let g = c.args.g.now in
    let latency = c.args.plan.now.latency in
    subst (λ xs. Judges c.arcs.result (AreArcs g latency xs) (IsFirstBad (IsArcAt g latency xs))) c.as_slice.ensures
    (c.arcs.ensures g latency (ap (map difference) c.deref-2.ensures.value ∙ c.in_ok-network.ensures.network))

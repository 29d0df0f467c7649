use Rattle.std.proofs.Common.{◌≡◌, ◌∙◌, length, ap, arith}
use Rattle.plan_model.specs.Rules.{path_latency}
use Rattle.plan_checker.proofs.FlowSizeFacts.{few_arcs, few_live}
use Rattle.plan_checker.proofs.PathFacts.{path_is_short}
use Rattle.plan_checker.proofs.judged.judge_bound.Goals as goal

pub network-requires-clause-small : goal.network-requires-clause-small
network-requires-clause-small c =
    let short = path_is_short c.args.g.now c.args.plan.now.path c.requires.sound c.requires.path in
    let long : path_latency c.args.g.now c.args.plan.now.path ≡ c.args.plan.now.latency = c.requires.longest in
    omega arith

pub bound-requires-clause-few_arcs : goal.bound-requires-clause-few_arcs
bound-requires-clause-few_arcs c =
    let few = few_arcs c.args.g.now c.args.plan.now.latency c.args.plan.now.arcs c.requires.sound.fits c.requires.arcs in
    let same = ap (λ xs. length xs) c.as_slice-arcs.ensures in
    omega arith

pub bound-requires-clause-few : goal.bound-requires-clause-few
bound-requires-clause-few c =
    let few = few_live c.args.g.now c.requires.sound.fits in
    let same = ap (λ xs. length xs) (c.deref-3.ensures.value ∙ c.in_ok-connections.ensures) in
    omega arith

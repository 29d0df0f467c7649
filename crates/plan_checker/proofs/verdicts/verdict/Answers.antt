use Rattle.std.proofs.Common.{arith}
use Rattle.plan_model.specs.Certified.{Holds}
use Rattle.plan_model.proofs.CertifiedLaws.{certified_is_optimal}
use Rattle.plan_checker.proofs.RuleFacts.{every_rule}
use Rattle.plan_checker.proofs.verdicts.verdict.Goals as goal

pub returns-clause-optimal : goal.returns-clause-optimal
returns-clause-optimal c =
    let g = c.args.g.now in
    let plan = c.args.plan.now in
    certified_is_optimal g plan c.graph-graph.ensures.sound (every_rule (Holds g plan) c.loop-rule.rule-index (omega (arith, c.loop-rule-test.false)) c.loop-rule.invariant)

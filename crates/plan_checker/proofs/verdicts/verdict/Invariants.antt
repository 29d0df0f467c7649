use Rattle.std.proofs.Common.{◌<◌}
use Rattle.plan_model.specs.Certified.{Holds}
use Rattle.plan_model.specs.Rules.{number}
use Rattle.plan_model.specs.declared.rule.Rule.{Rule}
use Rattle.plan_checker.proofs.verdicts.verdict.Given as goal

-- the rules so far hold
abbrev pub invariant-loop-rule : goal.invariant-loop-rule
invariant-loop-rule l = (r : Rule) → number r < l.rule-index → Holds l.g l.plan r

use Rattle.std.proofs.Common.{ap, ◌∙◌}
use Rattle.plan_model.specs.Alignments.{position_in}
use Rattle.plan_model.specs.SharedLines.{ports_of_lines}
use Rattle.plan_model.specs.declared.rule.Rule.TheVariants.{Lines, Waves}
use Rattle.plan_model.proofs.SharedCertifiedLaws.{lines_named}
use Rattle.shared_tests.proofs.plans.lives_by.Goals as goal

pub lives_shared-requires-clause-schedule : goal.lives_shared-requires-clause-schedule
lives_shared-requires-clause-schedule c = c.requires Waves

pub lives_shared-requires-clause-lines : goal.lives_shared-requires-clause-lines
lives_shared-requires-clause-lines c = ap ports_of_lines (c.requires Lines) ∙ lines_named c.args.checked.now (position_in c.args.plan.now.at)

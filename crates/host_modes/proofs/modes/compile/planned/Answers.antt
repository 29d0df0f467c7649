use Rattle.std.proofs.Common.{subst}
use Rattle.plan_model.specs.Results.{IsPlan}
use Rattle.plan_model.proofs.CertifiedLaws.{certified_is_optimal}
use Rattle.host_modes.proofs.modes.compile.planned.Goals as goal

pub returns-clause-plan : goal.returns-clause-plan
returns-clause-plan c = record {
  plan_is = subst (λ mode. IsPlan c.args.graph.now mode c.in_ok-plan.plan) c.mode.ensures c.in_ok-plan.ensures.plan;
  optimal = certified_is_optimal c.args.graph.now c.in_ok-plan.plan c.requires c.in_ok-plan.ensures.certified;
}

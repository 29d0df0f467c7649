use Rattle.plan_model.proofs.CertifiedLaws.{certified_is_optimal}
use Rattle.host_modes.proofs.modes.demo.judged_plan.Goals as goal

pub judge-requires : goal.judge-requires
judge-requires c = c.in_ok-plan.ensures.certified

pub returns : goal.returns
returns c = record {
  plan_is = c.in_ok-plan.ensures.plan;
  optimal = certified_is_optimal c.args.graph.now c.in_ok-plan.plan c.requires c.in_ok-plan.ensures.certified;
}

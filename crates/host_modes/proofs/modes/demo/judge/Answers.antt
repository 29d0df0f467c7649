use Rattle.std.proofs.Common.{subst}
use Rattle.plan_checker.specs.Verdicts.{IsRefusal}
use Rattle.host_modes.proofs.EndOnceLaws.{not_refused}
use Rattle.host_modes.proofs.modes.demo.judge.Goals as goal

pub unreachable-requires : goal.unreachable-requires
unreachable-requires c =
    let found = c.in-Err-Fault.field-0-0 in
    not_refused c.args.graph.now c.args.plan.now found.rule found.place c.requires
    (subst (λ r. IsRefusal c.args.graph.now c.args.plan.now r) c.in-Err-Fault.field-0-is c.in-Err-Fault.ensures.no)

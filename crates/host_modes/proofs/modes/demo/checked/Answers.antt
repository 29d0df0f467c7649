use Rattle.std.proofs.Common.{subst}
use Rattle.connections.specs.Faults.{IsRefusal}
use Rattle.host_modes.proofs.EndOnceLaws.{unsound}
use Rattle.host_modes.proofs.modes.demo.checked.Goals as goal

pub unreachable-requires : goal.unreachable-requires
unreachable-requires c =
    unsound c.args.graph c.in-Err-Fault.field-0-0 (subst (λ r. IsRefusal c.args.graph r) c.in-Err-Fault.field-0-is c.in-Err-Fault.ensures.refusal) c.requires

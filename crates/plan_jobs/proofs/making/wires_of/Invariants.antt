use Rattle.std.proofs.Common.{take}
use Rattle.plan_jobs.specs.Made.{AreWiresOf}
use Rattle.plan_jobs.proofs.making.wires_of.Given as goal

abbrev pub invariant-loop-connection : goal.invariant-loop-connection
invariant-loop-connection l = AreWiresOf (take l.connection-index l.connection-items) l.homes l.own l.uid.0 l.list.items

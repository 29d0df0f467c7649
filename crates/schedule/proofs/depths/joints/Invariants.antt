use Rattle.std.proofs.Common.{take}
use Rattle.schedule.specs.Depths.{AreJoints}
use Rattle.schedule.proofs.depths.joints.Given as goal

abbrev pub invariant-loop-connection : goal.invariant-loop-connection
invariant-loop-connection l = AreJoints l.graph (take l.connection l.graph.connections) l.joints.items

use Rattle.std.proofs.Common.{take}
use Rattle.plan_model.specs.Alignments.{position_in}
use Rattle.plan_jobs.specs.Made.{AreLinesOf}
use Rattle.plan_jobs.proofs.making.lines_of.Given as goal

abbrev pub invariant-loop-connection : goal.invariant-loop-connection
invariant-loop-connection l = AreLinesOf l.graph (position_in l.ats) (take l.connection-index l.connection-items) l.uid.0 l.list.items

use Rattle.std.proofs.Common.{length}
use Rattle.players.proofs.GatherFacts.{Gathering}
use Rattle.players.proofs.gathering.gather.Given as goal

abbrev pub invariant-loop-i : goal.invariant-loop-i
invariant-loop-i l = Gathering l.wires l.silent l.pool l.outs l.first l.count l.fn.lines (length l.fn.sums) l.i l.lines l.sums

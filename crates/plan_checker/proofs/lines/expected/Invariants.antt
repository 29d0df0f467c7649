use Rattle.std.proofs.Common.{◌≡◌, ◌++◌, drop}
use Rattle.plan_model.specs.Alignments.{lines, lines_from, position_in}
use Rattle.plan_checker.proofs.lines.expected.Given as goal

abbrev pub invariant-loop-k : goal.invariant-loop-k
invariant-loop-k l = l.lines ++ lines_from l.g (position_in l.at) l.k (drop l.k l.g.connections) ≡ lines l.g (position_in l.at)

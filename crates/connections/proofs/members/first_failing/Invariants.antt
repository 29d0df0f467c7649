use Rattle.std.proofs.Common.{◌≡◌, drop}
use Rattle.graph_model.specs.Members.{first_failing}
use Rattle.connections.proofs.members.first_failing.Given as goal

abbrev pub invariant-loop-member : goal.invariant-loop-member
invariant-loop-member l = first_failing l.tests ≡ first_failing (drop l.member-index l.tests)

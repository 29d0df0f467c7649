use Rattle.std.proofs.Common.{◌+◌, ◌*◌}
use Rattle.fork_join.proofs.work.+parts.Given as goal

abbrev pub decreases-share : goal.decreases-share
decreases-share g l = 3 * l.threads

abbrev pub decreases-beside : goal.decreases-beside
decreases-beside g l = 3 * l.threads + 2

abbrev pub decreases-beside-here : goal.decreases-beside-here
decreases-beside-here g l = 3 * l.threads + 1

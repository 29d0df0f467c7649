use Rattle.std.proofs.Common.{ℕ, ◌<◌, ◌≤◌, ◌^◌, get_or}
use Rattle.headroom.proofs.loud.loud_on.Given as goal

-- no channel before passes the limit
abbrev pub invariant-loop-channel : goal.invariant-loop-channel
invariant-loop-channel l = (d : ℕ) → d < l.channel → get_or l.bounds d 0 ≤ 2 ^ 46

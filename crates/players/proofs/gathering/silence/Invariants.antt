use Rattle.std.proofs.Common.{◌≡◌, ℕ, ◌+◌, ◌*◌, ◌<◌, get_or, pos}
use Rattle.players.proofs.gathering.silence.Given as goal

abbrev pub invariant-loop-channel : goal.invariant-loop-channel
invariant-loop-channel l = (k t : ℕ) → k < l.channel-index → t < l.count → get_or l.sums (get_or l.channels k 0 * l.count + t) (pos 0) ≡ pos 0

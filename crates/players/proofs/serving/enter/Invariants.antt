use Rattle.std.proofs.Common.{◌≡◌, ℕ, ◌+◌, ◌*◌, ◌<◌, get_or, pos}
use Rattle.graph_model.specs.Histories.{frame_in}
use Rattle.players.proofs.serving.enter.Given as goal

abbrev pub invariant-loop-c : goal.invariant-loop-c
invariant-loop-c l = (d t : ℕ) → d < l.c → t < l.count → get_or l.told (d * l.count + t) (pos 0) ≡ get_or (frame_in l.channels l.input (l.first + t)) d (pos 0)

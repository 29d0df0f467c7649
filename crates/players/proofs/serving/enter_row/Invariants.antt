use Rattle.std.proofs.Common.{◌≡◌, ℕ, ◌+◌, ◌<◌, get_or, pos}
use Rattle.graph_model.specs.Histories.{frame_in}
use Rattle.players.proofs.serving.enter_row.Given as goal

abbrev pub invariant-loop-t : goal.invariant-loop-t
invariant-loop-t l = (s : ℕ) → s < l.t → get_or l.row s (pos 0) ≡ get_or (frame_in l.channels l.input (l.first + s)) l.channel (pos 0)

use Rattle.std.proofs.Common.{◌-◌}
use Rattle.players.proofs.PlayFacts.{Playing}
use Rattle.players.proofs.playing.Player.play_block.Given as goal

abbrev pub invariant-loop-first : goal.invariant-loop-first
invariant-loop-first l = Playing l.input l.channels l.pool l.homes l.frames l.first l.fn.outs l.fn.self l.outs l.self

abbrev pub decreases-loop-first : goal.decreases-loop-first
decreases-loop-first l = l.frames - l.first

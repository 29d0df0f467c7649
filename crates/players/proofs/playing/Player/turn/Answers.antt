use Rattle.players.proofs.PlayFacts.{has_turned, over_scatter}
use Rattle.players.proofs.playing.Player.turn.Goals as goal

pub returns-clause-played : goal.returns-clause-played
returns-clause-played c =
    has_turned c.args.input.now c.args.channels c.args.pool.now c.args.homes.now c.args.outs.now c.args.first c.args.count c.args.self.now c.requires c.take.new.self c.scatter.new.outs c.take.ensures.taken
    (over_scatter c.args.homes.now c.scatter.new.outs c.args.first c.args.count c.take.new.self.told.items _ c.as_slice.ensures.value c.scatter.ensures.samples)
    c.scatter.ensures.rest c.scatter.ensures.lengths

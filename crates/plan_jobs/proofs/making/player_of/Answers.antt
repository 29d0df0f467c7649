use Rattle.std.proofs.Common.{pos, ◌∙◌, ap, length}
use Rattle.std.proofs.lemmas.List.{length-replicate}
use Rattle.players.specs.Reads.{channels_of, is_fed}
use Rattle.plan_jobs.proofs.MakeFacts.{made_player}
use Rattle.plan_jobs.proofs.making.player_of.Goals as goal

pub returns : goal.returns
returns c =
    made_player c.args.graph.now _ c.args.homes.now c.args.own.now c.args.node.now c.args.bound.now _ c.requires.named c.requires.is c.requires.channels c.requires.own
    c.in_ok-wires.ensures c.in_ok-lines.ensures c.in_ok-server.ensures c.ins-ins.ensures c.outs-outs.ensures
    (ap length c.in_ok-sums.ensures ∙ length-replicate _ _) (ap length c.in_ok-told.ensures ∙ length-replicate _ _) (ap length c.in_ok-spare.ensures ∙ length-replicate 64 (pos 0))
    c.in_ok-silent.ensures.within (λ d lt f. c.in_ok-silent.ensures.all d lt (ap (λ ws. is_fed (channels_of ws) d) c.as_slice.ensures.value ∙ f))

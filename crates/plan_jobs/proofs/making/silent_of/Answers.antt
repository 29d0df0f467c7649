use Rattle.std.proofs.Common.{◌≡◌, ℕ, ◌+◌, ◌<◌, ◌∙◌, List, sym, ap, subst, false}
use Rattle.std.specs.List.{All, Contains}
use Rattle.players.specs.Reads.{channels_of, is_fed}
use Rattle.plan_jobs.proofs.WireFacts.{fed_any, within_one, within_more, all_one, all_more}
use Rattle.plan_jobs.proofs.making.silent_of.Goals.{then-not-is_fed+in_ok-push, else-not-is_fed}
use Rattle.plan_jobs.proofs.making.silent_of.Goals as goal

pub loop-channel-preserved : goal.loop-channel-preserved
loop-channel-preserved c = elim c.if-not-is_fed.branch [
  | then-not-is_fed+in_ok-push w ↦
      subst (λ (ds : List ℕ). All (λ d. d < c.loop-channel.channel + 1) ds × ((d : ℕ) → d < c.loop-channel.channel + 1 → is_fed (channels_of c.args.wires.now) d ≡ false → Contains ds d))
      (sym (ap (λ l. l.items) w.list-is ∙ w.in_ok-push.ensures.items)) (
        within_one c.loop-channel.channel c.loop-channel.list.items c.loop-channel.invariant.0,
        all_one c.loop-channel.channel (is_fed (channels_of c.args.wires.now)) c.loop-channel.list.items c.loop-channel.invariant.1,
      )
  | else-not-is_fed w ↦
      subst (λ (ds : List ℕ). All (λ d. d < c.loop-channel.channel + 1) ds × ((d : ℕ) → d < c.loop-channel.channel + 1 → is_fed (channels_of c.args.wires.now) d ≡ false → Contains ds d))
      (sym (ap (λ l. l.items) w.list-is)) (
        within_more c.loop-channel.channel c.loop-channel.list.items c.loop-channel.invariant.0,
        all_more c.loop-channel.channel (is_fed (channels_of c.args.wires.now)) c.loop-channel.list.items c.loop-channel.invariant.1
            (fed_any c.loop-channel.channel c.args.wires.now ∙ sym c.is_fed.ensures ∙ w.if-not-is_fed.false),
      )
]

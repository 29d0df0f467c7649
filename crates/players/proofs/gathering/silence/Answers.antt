use Rattle.std.proofs.Common.{◌≡◌, ◌+◌, ◌*◌, ◌<◌, ◌≤◌, get_or, pos, ap, ◌∙◌, subst, arith, ⊎_elim}
use Rattle.std.proofs.lemmas.Bool.{cases_lt}
use Rattle.std.proofs.lemmas.List.{get_or_default}
use Rattle.players.proofs.PartFacts.{slice_len}
use Rattle.players.proofs.GatherFacts.{zeros_more}
use Rattle.players.proofs.gathering.silence.Goals as goal

pub loop-channel-preserved : goal.loop-channel-preserved
loop-channel-preserved c = λ k t lk lt.
    zeros_more c.loop-channel.sums c.fill.new.self c.args.count t (get_or c.args.channels.now k 0) (get_or c.args.channels.now c.loop-channel.channel-index 0) _
    (let room = c.requires.room c.loop-channel.channel-index 0 c.loop-channel-test.true in let same = c.loop-channel.auto.sums in omega arith) lt (slice_len _ _ c.loop-channel.sums (let room = c.requires.room c.loop-channel.channel-index 0 c.loop-channel-test.true in let same = c.loop-channel.auto.sums in omega arith)) (c.fill.ensures.after (λ y e. e))
    (λ ne. ⊎_elim
    (λ (less : k < c.loop-channel.channel-index). c.loop-channel.invariant k t less lt)
    (λ (le : c.loop-channel.channel-index ≤ k). absurd (ne (let e : k ≡ c.loop-channel.channel-index = omega arith in ap (λ j. get_or c.args.channels.now j 0) e)))
    (cases_lt k c.loop-channel.channel-index))

pub returns : goal.returns
returns c = λ d t has lt.
    let e : get_or c.args.channels.now has.0 0 ≡ d = get_or_default c.args.channels.now has.0 0 d has.1 ∙ has.2 in
    subst (λ x. get_or c.loop-channel.sums (x * c.args.count + t) (pos 0) ≡ pos 0) e
    (c.loop-channel.invariant has.0 t (let l = has.1 in omega arith) lt)

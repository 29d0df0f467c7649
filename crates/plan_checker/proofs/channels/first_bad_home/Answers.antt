use Rattle.std.proofs.Common.{◌≡◌, arith, sym, below_more}
use Rattle.std.proofs.lemmas.Option.{slice_get_within}
use Rattle.std.proofs.lemmas.Slice.Zip.{AllZip-long}
use Rattle.plan_model.specs.Places.{IsHomeAt}
use Rattle.plan_model.proofs.PlaceLaws.{channels_by_entries}
use Rattle.plan_checker.proofs.channels.first_bad_home.Goals as goal

pub is_home-requires-clause-each : goal.is_home-requires-clause-each
is_home-requires-clause-each c = sym (AllZip-long (λ x h. (h.uid ≡ x.uid) × (h.channel ≡ x.channel)) c.args.lives.now c.args.homes.now c.requires)

pub returns-then-not-is_home : goal.returns-then-not-is_home
returns-then-not-is_home c =
    ((λ a. c.if-not-is_home.ensures ((channels_by_entries c.args.lives.now c.args.homes.now c.args.channels c.requires).1 a c.loop-k.k)), (c.loop-k.invariant, c.if-not-is_home.ensures))

pub loop-k-preserved : goal.loop-k-preserved
loop-k-preserved c = below_more (λ k. IsHomeAt c.args.lives.now c.args.homes.now c.args.channels k) c.loop-k.k c.loop-k.invariant c.if-not-is_home.ensures

pub returns : goal.returns
returns c =
    (channels_by_entries c.args.lives.now c.args.homes.now c.args.channels c.requires).0
    (λ k x h ex eh. let l = slice_get_within c.args.homes.now k h eh in c.loop-k.invariant k (omega arith) x h ex eh)

use Rattle.std.proofs.Common.{◌≡◌, ◌<◌, sym}
use Rattle.std.proofs.lemmas.List.Elements.{All-contains}
use Rattle.std.proofs.lemmas.Option.{slice_get_within}
use Rattle.std.proofs.lemmas.Slice.Zip.{AllZip-long}
use Rattle.plan_model.specs.declared.buffers.Home.{Home}
use Rattle.plan_model.proofs.PlaceLaws.{channels_by_entries, has_item}
use Rattle.plan_checker.proofs.channels.channels.Goals as goal

pub all_fit-requires-clause-each : goal.all_fit-requires-clause-each
all_fit-requires-clause-each c = sym (AllZip-long (λ x h. (h.uid ≡ x.uid) × (h.channel ≡ x.channel)) c.args.lives.now c.args.homes.now c.requires.beside)

pub returns-then-branch : goal.returns-then-branch
returns-then-branch c =
    let homes = c.args.homes.now in
    let n = c.args.channels in
    (channels_by_entries c.args.lives.now homes n c.requires.beside).0
    (λ k x h ex eh. (
      All-contains (λ (i : Home). i.buffer < n) homes h c.if-are_below.ensures (has_item homes k h eh),
      λ j y i lt ey ei same. c.in_ok-all_fit.ensures c.if-branch.true j k lt (slice_get_within homes k h eh) y x i h ey ex ei eh same,
    ))

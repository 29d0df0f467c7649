use Rattle.std.proofs.Common.{◌≡◌, ◌<◌, get_or, subst, arith, below_more, None}
use Rattle.std.proofs.lemmas.Option.{slice_get-get_or, get_or_from_slice_get}
use Rattle.plan_model.specs.declared.buffers.Home.{Home}
use Rattle.plan_model.specs.declared.buffers.Life.{Life}
use Rattle.plan_checker.specs.Buffers.{AreApart}
use Rattle.plan_checker.proofs.channels.is_home.Goals as goal

abbrev nowhere : Home
nowhere = record { uid = record { 0 = 0 }; channel = 0; buffer = 0 }

pub returns-then-homes-k : goal.returns-then-homes-k
returns-then-homes-k c here =
    let lives = c.args.lives.now in
    let homes = c.args.homes.now in
    let k = c.args.k in
    let none : Life = record { uid = record { 0 = 0 }; channel = 0; born = 0; dies = 0; reader = None } in
    let below = (here (get_or lives k none) (get_or homes k nowhere) (slice_get-get_or lives k none (omega (arith, c.requires.within, c.requires.each)))
    (slice_get-get_or homes k nowhere c.requires.within)).0 in
    omega (arith, c.if-homes-k.true, below)

pub loop-j-preserved : goal.loop-j-preserved
loop-j-preserved c = below_more (λ i. AreApart c.args.lives.now c.args.homes.now i c.args.k) c.loop-j.j c.loop-j.invariant c.if-not-are_apart.ensures

pub returns : goal.returns
returns c x h ex eh =
    let mine : get_or c.args.homes.now c.args.k nowhere ≡ h = get_or_from_slice_get c.args.homes.now c.args.k h nowhere eh in (
      subst (λ (i : Home). i.buffer < c.args.channels) mine c.if-homes-k.false,
      λ j y i lt ey ei same. c.loop-j.invariant j (omega arith) y x i h ey ex ei eh same,
    )

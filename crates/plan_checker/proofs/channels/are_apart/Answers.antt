use Rattle.std.proofs.Common.{get_or, arith, None}
use Rattle.std.proofs.lemmas.Option.{slice_get-get_or}
use Rattle.plan_model.specs.declared.buffers.Home.{Home}
use Rattle.plan_model.specs.declared.buffers.Life.{Life}
use Rattle.plan_checker.proofs.ApartFacts.{apart_by, shares_by}
use Rattle.plan_checker.proofs.SameTestFacts.{same_test}
use Rattle.plan_checker.proofs.channels.are_apart.Goals as goal

abbrev nowhere : Home
nowhere = record { uid = record { 0 = 0 }; channel = 0; buffer = 0 }

pub returns : goal.returns
returns c =
    let lives = c.args.lives.now in
    let homes = c.args.homes.now in
    let j = c.args.j in
    let k = c.args.k in
    let none : Life = record { uid = record { 0 = 0 }; channel = 0; born = 0; dies = 0; reader = None } in
    let at_j = slice_get-get_or lives j none (omega (arith, c.requires.first, c.requires.each)) in
    let at_k = slice_get-get_or lives k none (omega (arith, c.requires.second, c.requires.each)) in
    same_test c.may_share.result c.may_share.ensures
    (apart_by lives homes j k (get_or lives j none) (get_or lives k none) at_j at_k)
    (shares_by lives homes j k (get_or lives j none) (get_or lives k none) at_j at_k (get_or homes j nowhere) (get_or homes k nowhere)
    (slice_get-get_or homes j nowhere c.requires.first) (slice_get-get_or homes k nowhere c.requires.second) c.if-homes-j.false)

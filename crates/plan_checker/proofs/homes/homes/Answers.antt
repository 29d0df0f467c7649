use Rattle.std.proofs.Common.{◌≡◌, ◌∙◌, length, sym, ap, subst, arith}
use Rattle.std.proofs.lemmas.List.{length-map}
use Rattle.plan_model.specs.Lives.{AreValues, ports_of, values}
use Rattle.plan_model.specs.Places.{same_port}
use Rattle.plan_model.specs.declared.buffers.Home.{Home}
use Rattle.plan_model.proofs.UniqueLaws.{values_are_unique}
use Rattle.plan_model.proofs.ValueLaws.{values_are_listed}
use Rattle.plan_checker.specs.Homes.{port_of}
use Rattle.plan_checker.proofs.HomeFacts.{values_are, place_is, port_is, port_itself}
use Rattle.plan_checker.proofs.PrefixFacts.{agree_whole, same_agree}
use Rattle.plan_checker.proofs.homes.homes.Goals as goal
use Rattle.plan_checker.proofs.homes.homes.Goals.{else-agreeing-homes-via-then-agreeing-homes+else-agreeing-lives, else-agreeing-homes-via-else-agreeing-homes}

pub returns-then-agreeing-lives : goal.returns-then-agreeing-lives
returns-then-agreeing-lives c g waves are =
    let homes = c.args.homes.now in
    let lives = c.args.lives.now in
    let place = place_is g waves lives homes are in
    let long : length (ports_of homes) ≡ length homes = length-map homes (λ (h : Home). record { uid = h.uid; channel = h.channel }) in
    let count = length-map lives port_of in
    let size = ap length (values_are g waves lives homes are) in
    let same : ports_of homes ≡ values g = agree_whole same_port port_is port_itself (ports_of homes) (values g) (omega arith) (omega arith) in
    subst (AreValues g) (sym same) (values_are_listed g)

pub returns : goal.returns
returns c g waves are =
    let homes = c.args.homes.now in
    let lives = c.args.lives.now in
    let place = place_is g waves lives homes are in
    let long : length (ports_of homes) ≡ length homes = length-map homes (λ (h : Home). record { uid = h.uid; channel = h.channel }) in
    let count = length-map lives port_of in
    let size = ap length (values_are g waves lives homes are) in (
      (λ for.
          let is : ports_of homes ≡ values g = values_are_unique g (ports_of homes) (values g) for (values_are_listed g) in
          let whole = same_agree same_port port_is port_itself (ports_of homes) (values g) is in
          let both = ap length is in
          elim c.else-agreeing-homes.branch [
            | else-agreeing-homes-via-then-agreeing-homes+else-agreeing-lives w ↦ w.if-agreeing-lives.false (omega arith)
            | else-agreeing-homes-via-else-agreeing-homes w ↦ w.if-agreeing-homes.false (omega arith)
          ]),
      c.agreeing-agreeing.ensures ∙ place,
    )

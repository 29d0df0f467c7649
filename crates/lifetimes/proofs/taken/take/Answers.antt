use Rattle.std.proofs.Common.{◌-◌, sym, refl, rules, arith}
use Rattle.lifetimes.proofs.TurnFacts.{one_less}
use Rattle.lifetimes.proofs.taken.take.Goals as goal

pub returns-then-left-eq0-clause-left : goal.returns-then-left-eq0-clause-left
returns-then-left-eq0-clause-left c =
    let written = (c.get_mut.follows.holds c.in-Some.left.now).3 (search rules) in
    one_less c.args.free.now (c.get_mut.follows.lender c.in-Some.left.now) c.args.turn c.in-Some.left.now c.in-Some.left.now (omega (arith, c.if-left-eq0.true)) (sym c.in-Some.ensures.value) written.0

pub returns-clause-left : goal.returns-clause-left
returns-clause-left c =
    let written = (c.get_mut.follows.holds (c.in-Some.left.now - 1)).3 (search rules) in
    one_less c.args.free.now (c.get_mut.follows.lender (c.in-Some.left.now - 1)) c.args.turn c.in-Some.left.now (c.in-Some.left.now - 1) refl (sym c.in-Some.ensures.value) written.0

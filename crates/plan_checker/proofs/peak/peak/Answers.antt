use Rattle.std.proofs.Common.{refl, subst, sym}
use Rattle.std.specs.Prelude.{length}
use Rattle.plan_model.specs.Rules.{IsPeak}
use Rattle.plan_checker.proofs.PeakFacts.{first_is_peak, peak_is_first, some_is_first}
use Rattle.plan_checker.proofs.peak.peak.Goals as goal

pub returns-in_default : goal.returns-in_default
returns-in_default c lives are = ((λ peak. some_is_first lives c.args.needs.now c.args.channels are c.args.peak (sym c.in_default.ensures) peak), refl)

pub returns-then-first-peak : goal.returns-then-first-peak
returns-then-first-peak c lives are =
    subst (IsPeak lives (length c.args.needs.now) c.args.channels) c.if-first-peak.true
    (first_is_peak lives c.args.needs.now c.args.channels are c.in-Some.first (sym c.in-Some.ensures))

pub returns : goal.returns
returns c lives are =
    ((λ peak. c.if-first-peak.false (peak_is_first lives c.args.needs.now c.args.channels are c.args.peak c.in-Some.first (sym c.in-Some.ensures) peak)), refl)

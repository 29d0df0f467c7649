use Rattle.std.proofs.Common.{subst, inl, inr}
use Rattle.gh_outside.specs.Holdings.{GainsAll, GainsPrefix}
use Rattle.host_modes.proofs.RunLaws.{quiet_unreported, reported}
use Rattle.host_modes.proofs.modes.reporting.reported.Goals as goal

pub returns-in-Ok : goal.returns-in-Ok
returns-in-Ok g c = λ asked files reads writes quiet work playing.
    reported asked files reads writes _ _ _ _ c.args.work.plan c.args.work.text.items c.args.work.end c.args.engine c.in-Ok.ensures.cause.later quiet work playing
    (subst (λ text. GainsAll text (g.R.Sink.bytes c.args.report.now) (g.R.Sink.bytes c.put.new.self)) c.deref.ensures.value c.in-Ok.ensures.gained)

pub returns : goal.returns
returns g c = λ asked files reads writes quiet work playing.
    quiet_unreported asked files reads writes _ _ _ _ c.args.work.plan c.args.work.text.items c.args.work.end c.args.engine c.in-Err.ensures.cause.later quiet work playing
    (subst (λ text. GainsPrefix text (g.R.Sink.bytes c.args.report.now) (g.R.Sink.bytes c.put.new.self)) c.deref.ensures.value c.in-Err.ensures.failed)
    (elim c.in-Err.ensures.cause.failed [
      | inl missed ↦ absurd missed
      | inr rose ↦ rose
    ])

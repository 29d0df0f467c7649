use Rattle.std.proofs.Common.{◌∙◌}
use Rattle.renderer.proofs.AddingFacts.{added_more, sum_is}
use Rattle.renderer.proofs.routes.Route.add.Goals as goal

pub loop-time-preserved : goal.loop-time-preserved
loop-time-preserved c =
    let r = c.args.self in
    let k = c.loop-time.time in
    let n = c.args.frames in
    let h = c.requires in
    added_more c.loop-time.time c.args.frames c.args.self c.args.stream.now c.args.sums.now c.loop-time.sums _ h.to (c.loop-time.auto.sums ∙ h.sums) c.loop-time-test.true c.loop-time.auto.time c.loop-time.invariant
    (sum_is c.loop-time.time c.args.frames c.args.self c.args.stream.now c.args.sums.now c.loop-time.sums h.from h.to h.stream h.sums c.loop-time-test.true c.loop-time.auto.time h.small h.room c.loop-time.invariant)

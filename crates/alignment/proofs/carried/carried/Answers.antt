use Rattle.std.proofs.Common.{◌∙◌}
use Rattle.alignment.specs.Carried.{unit_entry}
use Rattle.alignment.proofs.StepFacts.{entries-some, entries-none}
use Rattle.alignment.proofs.carried.carried.Goals as goal
use Rattle.alignment.proofs.carried.carried.Goals.{then-flow-k-gt0+in_ok-push, else-flow-k-gt0}

pub loop-k-preserved : goal.loop-k-preserved
loop-k-preserved c =
    elim c.if-flow-k-gt0.branch [
      | then-flow-k-gt0+in_ok-push w ↦
          entries-some unit_entry 0 c.args.points.now c.args.arcs.now c.args.flow.now c.loop-k.k c.requires.each c.loop-k-test.true c.loop-k.carried c.loop-k.invariant c.if-flow-k-gt0.carried
          w.if-flow-k-gt0.true (w.carried-is ∙ w.in_ok-push.ensures.ok)
      | else-flow-k-gt0 w ↦
          w.carried-is ∙ entries-none unit_entry 0 c.args.points.now c.args.arcs.now c.args.flow.now c.loop-k.k c.requires.each c.loop-k-test.true c.loop-k.carried c.loop-k.invariant w.if-flow-k-gt0.false
    ]

-- One more sample.
use Rattle.std.proofs.Common.{arith, rules, FitsSigned, w64}
use Rattle.std.proofs.lemmas.Int.{to_z-of_z}
use Rattle.graph_gen.proofs.StepFacts.{one_more_sample}
use Rattle.graph_gen.proofs.samples.samples_of.Goals as goal

pub loop-sample-preserved : goal.loop-sample-preserved
loop-sample-preserved c =
    let fits : FitsSigned w64 c.sample.result = search rules in
    one_more_sample c.loop-sample.draws.state _ _ _ _ _ _ _ c.sample.ensures.drawn c.sample.ensures.state (omega arith) (simp to_z-of_z at c.in_ok-push.ensures.ok) c.loop-sample.invariant

use Rattle.std.proofs.Common.{◌∙◌, ◌++◌, ◌∷◌, [], ap, arith, slice_index, ℕ}
use Rattle.plan_model.specs.declared.alignment.At.{At}
use Rattle.alignment.proofs.StepFacts.{places-more}
use Rattle.alignment.proofs.placed.places.Goals as goal

pub loop-point-preserved : goal.loop-point-preserved
loop-point-preserved c =
    let here : ℕ → At = λ n. record { uid = record { 0 = slice_index c.args.points.now c.loop-point.point }; at = n } in
    record {
      some = omega arith;
      placed = c.in_ok-push.ensures.ok ∙ ap (λ n. c.loop-point.places ++ here n ∷ []) c.position.ensures.at
          ∙ places-more c.args.points.now c.args.potentials.now c.loop-point.point c.loop-point.places c.requires.each c.loop-point.auto.point c.loop-point-test.true c.loop-point.invariant.placed;
    }

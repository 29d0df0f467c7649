use Rattle.std.proofs.Common.{◌-◌, ◌*◌, arith, ap, ◌∙◌, refl, take, drop, length}
use Rattle.std.proofs.lemmas.List.{take_all, length-drop}
use Rattle.graph_model.specs.Bounds.{weighed}
use Rattle.graph_model.specs.Filters.{gains_to}
use Rattle.graph_model.specs.Rounding.{rounded_nat}
use Rattle.headroom.specs.Loud.{kept}
use Rattle.headroom.proofs.OutputFacts.{pushed}
use Rattle.headroom.proofs.outputs.mixed.Goals as goal

pub loop-output-preserved : goal.loop-output-preserved
loop-output-preserved c =
    let whole = take_all (length c.args.gains.now - c.loop-output.output * length c.args.bounds.now) (drop (c.loop-output.output * length c.args.bounds.now) c.args.gains.now)
    (omega (arith, length-drop (c.loop-output.output * length c.args.bounds.now) c.args.gains.now)) in
    record {
      count = refl;
      outputs = pushed (λ o. kept (rounded_nat (weighed (gains_to (length c.args.bounds.now) c.args.gains.now o) c.args.bounds.now) 16)) c.loop-output.output _ _ c.kept_rounded.result
          c.loop-output.invariant.outputs
          (c.kept_rounded.ensures ∙ ap (λ n. kept (rounded_nat n 16)) (c.weighed_by.ensures.value ∙ ap (λ gs. weighed (take (length c.args.bounds.now) gs) c.args.bounds.now) whole))
          c.in_ok-push.ensures.ok;
    }

use Rattle.std.proofs.Common.{rules, arith, sym, get_or, ◌∙◌, pos, ◌+ℤ◌, ◌*ℤ◌, FitsSigned, w64}
use Rattle.std.specs.Int.{w128}
use Rattle.std.proofs.lemmas.Int.{to_z-of_z, fits_signed_from_abs}
use Rattle.plan_model.specs.Flows.{arc_between}
use Rattle.plan_model.specs.Networks.{least_or_zero}
use Rattle.plan_model.specs.declared.flow.Units.{Units}
use Rattle.plan_checker.proofs.FlowFacts.{sum_of-more}
use Rattle.plan_checker.proofs.flow.weight.Goals as goal

abbrev nothing : Units
nothing = record { tail = 0; head = 0; units = 0 }

pub loop-arc-preserved : goal.loop-arc-preserved
loop-arc-preserved c =
    let arcs = c.args.arcs.now in
    let i = c.loop-arc.arc-index in
    let fits : FitsSigned w128 c.plus_product-sum.result = search rules in
    let small : FitsSigned w64 c.least.result = fits_signed_from_abs w64 c.least.result (omega (arith, c.least.ensures.size)) in
    record {
      value = λ g latency is.
          rw (to_z-of_z w128 c.plus_product-sum.result fits)
          (c.plus_product-sum.ensures.value
          ∙ (λ j. c.loop-arc.invariant.value g latency is j +ℤ (pos (get_or arcs i nothing).units *ℤ (to_z-of_z w64 c.least.result small ∙ c.least.ensures.value g latency is) j))
          ∙ sym (sum_of-more (λ (e : Units). pos e.units *ℤ least_or_zero (arc_between g latency e.tail e.head)) arcs i nothing c.loop-arc-test.true));
      size = rw (to_z-of_z w128 c.plus_product-sum.result fits) (omega (arith, c.plus_product-sum.ensures.size, c.loop-arc.invariant.size));
    }

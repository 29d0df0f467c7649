use Rattle.std.proofs.Common.{rules, arith, sym, get_or, pos, FitsSigned, w64}
use Rattle.std.specs.Int.{w128}
use Rattle.std.proofs.lemmas.Int.{to_z-of_z}
use Rattle.min_cost_flow.specs.declared.network.Arc.{Arc}
use Rattle.alignment.proofs.StepFacts.{weighted-more}
use Rattle.alignment.proofs.carried.weight.Goals as goal

pub loop-k-preserved : goal.loop-k-preserved
loop-k-preserved c =
    let least : FitsSigned w64 (get_or c.args.arcs.now c.loop-k.k (record { tail = 0; head = 0; least = pos 0 })).least = search rules in
    let fits : FitsSigned w128 c.plus_product-sum.result = search rules in
    let step = simp to_z-of_z at c.plus_product-sum.ensures.value in
    record {
      value = rw (to_z-of_z w128 c.plus_product-sum.result fits, step, c.loop-k.invariant.value)
          (sym (weighted-more (λ (a : Arc). a.least) c.args.arcs.now c.args.flow.now c.loop-k.k _ c.requires.each c.loop-k-test.true));
      size = rw (to_z-of_z w128 c.plus_product-sum.result fits) (omega (arith, c.plus_product-sum.ensures.size, c.loop-k.invariant.size));
    }

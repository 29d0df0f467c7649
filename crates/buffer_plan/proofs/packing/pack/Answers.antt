use Rattle.std.proofs.Common.{◌<◌, All, arith, length, ap, subst, sym}
use Rattle.std.specs.List.Sorted.{IsNonDecreasingBy}
use Rattle.std.proofs.lemmas.List.{length-map, length-take}
use Rattle.std.proofs.lemmas.List.Sorted.{All-permutation, length_permutation}
use Rattle.plan_model.specs.declared.buffers.Life.{Life}
use Rattle.buffer_plan.specs.declared.packing.Placed.{Placed}
use Rattle.buffer_plan.proofs.StepFacts.{born_before}
use Rattle.buffer_plan.proofs.packing.pack.Goals as goal

pub place-requires-clause-born_last : goal.place-requires-clause-born_last
place-requires-clause-born_last c =
    born_before c.loop-life.packing.placed.items c.deref-life-items.result.now c.loop-life.life-index _ c.loop-life-test.true c.loop-life.invariant.values
    (subst (IsNonDecreasingBy (λ (x : Life). x.born)) (sym c.deref-life-items.ensures.value) c.in_ok-order.ensures.births)

pub place-requires-clause-lasting : goal.place-requires-clause-lasting
place-requires-clause-lasting c =
    subst (All (λ (x : Life). x.born < x.dies)) (sym c.deref-life-items.ensures.value)
    (All-permutation (λ (x : Life). x.born < x.dies) c.args.lives.now c.in_ok-order.order.items c.in_ok-order.ensures.permutation c.requires.lasting)
    c.loop-life.life-index _ c.loop-life-test.true

pub place-requires-clause-few : goal.place-requires-clause-few
place-requires-clause-few c =
    omega (
      arith,
      length-map c.loop-life.packing.placed.items (λ (z : Placed). z.life),
      ap length c.loop-life.invariant.values,
      length-take c.loop-life.life-index c.deref-life-items.result.now,
      ap length c.deref-life-items.ensures.value,
      length_permutation c.args.lives.now c.in_ok-order.order.items c.in_ok-order.ensures.permutation,
      c.loop-life-test.true,
    )

use Rattle.std.proofs.Common.{◌<◌, AllPairs, All, refl, subst, sym}
use Rattle.plan_model.specs.Buffers.{IsLifeBefore}
use Rattle.buffer_plan.proofs.lives.are_lives.Goals as goal

pub returns-then-all_last : goal.returns-then-all_last
returns-then-all_last c = (
  (λ up. record {
    ascending = subst (AllPairs IsLifeBefore) c.as_slice-then-all_last.ensures (c.ascend.ensures.0 up);
    within = subst (All (λ x. (x.born < x.dies) × (x.dies < c.args.waves))) c.as_slice.ensures (c.if-all_last.ensures.0 refl);
  }),
  (λ are. c.ascend.ensures.1 (subst (AllPairs IsLifeBefore) (sym c.as_slice-then-all_last.ensures) are.ascending)),
)

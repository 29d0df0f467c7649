use Rattle.std.proofs.Common.{arith, refl}
use Rattle.plan_model.specs.Buffers.{IsLifeBefore}
use Rattle.buffer_plan.proofs.SortFacts.{pairs_from_steps, before_through}
use Rattle.buffer_plan.proofs.lives.ascend.Goals as goal

pub returns : goal.returns
returns c =
    ((λ _. pairs_from_steps IsLifeBefore before_through c.args.lives.now (λ k d l. let end = c.loop-next-test.false in c.loop-next.invariant k d (omega arith))), (λ _. refl))

use Rattle.std.proofs.Common.{ℕ, ◌+◌, ◌<◌, get_or}
use Rattle.plan_model.specs.Buffers.{IsLifeBefore}
use Rattle.plan_model.specs.declared.buffers.Life.{Life}
use Rattle.buffer_plan.proofs.lives.ascend.Given as goal

abbrev pub invariant-loop-next : goal.invariant-loop-next
invariant-loop-next l = (k : ℕ) (d : Life) → k + 1 < l.next → IsLifeBefore (get_or l.lives k d) (get_or l.lives (k + 1) d)

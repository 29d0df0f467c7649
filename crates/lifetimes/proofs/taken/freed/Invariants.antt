use Rattle.std.proofs.Common.{◌≡◌, ℕ, count_by, take}
use Rattle.plan_model.specs.Buffers.{is_freed}
use Rattle.lifetimes.specs.Turns.{count_in}
use Rattle.lifetimes.proofs.taken.freed.Given as goal

abbrev pub invariant-loop-life : goal.invariant-loop-life
invariant-loop-life l = (s a : ℕ) → count_in l.freed s a ≡ count_by (is_freed s a) (take l.life-index l.lives)

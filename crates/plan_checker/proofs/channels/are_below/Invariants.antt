use Rattle.std.proofs.Common.{ℕ, ◌<◌, get_or}
use Rattle.plan_model.specs.declared.buffers.Home.{Home}
use Rattle.plan_checker.proofs.channels.are_below.Given as goal

abbrev pub invariant-loop-home : goal.invariant-loop-home
invariant-loop-home l = (k : ℕ) (d : Home) → k < l.home-index → (get_or l.homes k d).buffer < l.channels

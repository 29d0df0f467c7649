use Rattle.std.proofs.Common.{ℕ, ◌<◌}
use Rattle.plan_checker.specs.Buffers.{AreApart}
use Rattle.plan_checker.proofs.channels.is_home.Given as goal

abbrev pub invariant-loop-j : goal.invariant-loop-j
invariant-loop-j l = (i : ℕ) → i < l.j → AreApart l.lives l.homes i l.k

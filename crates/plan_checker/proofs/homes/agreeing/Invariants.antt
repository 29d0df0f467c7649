use Rattle.std.proofs.Common.{◌≡◌, ◌+◌, drop}
use Rattle.std.specs.List.{common_prefix_len}
use Rattle.plan_checker.specs.Homes.{is_for}
use Rattle.plan_checker.proofs.homes.agreeing.Given as goal

-- they agree up to here
abbrev pub invariant-loop-place : goal.invariant-loop-place
invariant-loop-place l = l.place + common_prefix_len is_for (drop l.place l.homes) (drop l.place l.lives) ≡ common_prefix_len is_for l.homes l.lives

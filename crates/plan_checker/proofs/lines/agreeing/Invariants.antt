use Rattle.std.proofs.Common.{◌≡◌, ◌+◌, drop}
use Rattle.std.specs.List.{common_prefix_len}
use Rattle.plan_model.specs.Places.{same_line}
use Rattle.plan_checker.proofs.lines.agreeing.Given as goal

-- they agree up to here
abbrev pub invariant-loop-place : goal.invariant-loop-place
invariant-loop-place l =
    l.place + common_prefix_len same_line (drop l.place l.lines) (drop l.place l.expected) ≡ common_prefix_len same_line l.lines l.expected

use Rattle.std.proofs.Common.{◌≡◌, ◌+◌, ◌==◌, map, drop}
use Rattle.std.specs.List.{common_prefix_len}
use Rattle.plan_model.specs.declared.alignment.At.{At}
use Rattle.plan_checker.proofs.live.agreeing.Given as goal

-- they agree up to here
abbrev pub invariant-loop-place : goal.invariant-loop-place
invariant-loop-place l =
    l.place + common_prefix_len (λ x y. x == y) (drop l.place (map (λ (a : At). a.uid.0) l.at)) (drop l.place l.live)
    ≡ common_prefix_len (λ x y. x == y) (map (λ (a : At). a.uid.0) l.at) l.live

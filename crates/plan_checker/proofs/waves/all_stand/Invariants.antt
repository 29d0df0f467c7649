use Rattle.std.proofs.Common.{ℕ, ◌<◌, get_or, Contains}
use Rattle.std.specs.List.{flat_map}
use Rattle.plan_model.specs.Schedules.{names}
use Rattle.plan_checker.proofs.waves.all_stand.Given as goal

abbrev pub invariant-loop-uid : goal.invariant-loop-uid
invariant-loop-uid l = (k : ℕ) → k < l.uid-index → Contains (flat_map names l.waves) (get_or l.live k 0)

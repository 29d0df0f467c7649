use Rattle.std.proofs.Common.{◌≡◌, ◌∷◌, [], map, take, filter}
use Rattle.graph_model.specs.Named.{uid_at}
use Rattle.graph_model.specs.Paths.{is_live}
use Rattle.plan_model.specs.Schedules.{names}
use Rattle.schedule.proofs.modes.one_by_one.Given as goal

-- a wave for each live node so far
abbrev pub invariant-loop-index : goal.invariant-loop-index
invariant-loop-index l = map names l.waves ≡ map (λ v. v ∷ []) (filter (is_live l.graph) (map (uid_at l.graph) (take l.index-index l.index-items)))

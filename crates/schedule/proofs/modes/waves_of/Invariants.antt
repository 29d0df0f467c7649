use Rattle.std.proofs.Common.{◌≡◌, ◌++◌, map}
use Rattle.plan_model.specs.declared.schedule.Wave.{Wave}
use Rattle.schedule.proofs.modes.waves_of.Given as goal

-- the waves so far, and the lists that are to come
abbrev pub invariant-loop-nodes : goal.invariant-loop-nodes
invariant-loop-nodes l = map (λ (w : Wave). w.nodes) l.waves ++ l.nodes-iterator.rest.items ≡ l.fn.levels.items

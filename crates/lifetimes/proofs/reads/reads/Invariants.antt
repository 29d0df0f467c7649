use Rattle.std.proofs.Common.{◌≡◌, List, map, take, filter}
use Rattle.graph_model.specs.Paths.{is_live}
use Rattle.graph_model.specs.declared.graph.Node.{Node}
use Rattle.plan_model.specs.Schedules.{wave_of}
use Rattle.plan_model.specs.declared.schedule.Wave.{Wave}
use Rattle.lifetimes.specs.Reads.{read_by}
use Rattle.lifetimes.proofs.reads.reads.Given as goal

abbrev pub invariant-loop-index : goal.invariant-loop-index
invariant-loop-index l = (waves : List Wave) → l.node_waves ≡ map (λ (n : Node). wave_of waves n.uid.0) l.graph.nodes
    → l.reads.items ≡ map (read_by waves) (filter (λ c. is_live l.graph c.dst.0) (take l.index l.graph.connections))

use Rattle.std.proofs.Common.{map}
use Rattle.graph_model.specs.Paths.{depth}
use Rattle.graph_model.specs.declared.graph.Uid.{Uid}
use Rattle.graph_model.specs.Named.{uid_at}
use Rattle.topology.proofs.PathFacts.{IsWalked}
use Rattle.topology.proofs.reaches.path_back.Given as goal

abbrev pub invariant-loop-u : goal.invariant-loop-u
invariant-loop-u l = IsWalked l.graph (map (λ (u : Uid). u.0) l.path.items) l.v

abbrev pub decreases-loop-u : goal.decreases-loop-u
decreases-loop-u l = depth l.graph (uid_at l.graph l.v)

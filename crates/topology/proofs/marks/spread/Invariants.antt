use Rattle.std.proofs.Common.{◌<◌, ◌≤◌, count_by, not}
use Rattle.std.specs.Prelude.{MatchBool}
use Rattle.graph_model.specs.declared.graph.Graph.{Graph}
use Rattle.graph_model.specs.Named.{IsNamed}
use Rattle.topology.specs.Links.{AreLinks}
use Rattle.topology.specs.Marks.{AllLive, SpreadUpTo, KeepsMarks}
use Rattle.topology.proofs.marks.spread.Given as goal

abbrev pub invariant-loop-e : goal.invariant-loop-e
invariant-loop-e l = record {
  kept : KeepsMarks l.initial.marks l.marks;
  live : (g : Graph) → IsNamed g → AreLinks g l.links → AllLive g l.initial.marks → AllLive g l.marks;
  fewer : count_by not l.marks ≤ count_by not l.initial.marks;
  more : MatchBool l.changed (count_by not l.marks < count_by not l.initial.marks) (SpreadUpTo l.links l.marks l.e);
}

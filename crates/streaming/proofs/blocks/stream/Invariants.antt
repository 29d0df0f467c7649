use Rattle.std.proofs.Common.{◌-◌, ◌≤◌}
use Rattle.streaming.proofs.LoopFacts.{Going}
use Rattle.streaming.proofs.blocks.stream.Given as goal

abbrev pub invariant-loop-done : goal.invariant-loop-done
invariant-loop-done g l = record {
  going : Going l.from l.to l.fn.engine (g.F.Folder.held l.fn.folder) l.lengths l.done l.turn l.engine (g.F.Folder.held l.folder) l.room;
  reads : g.F.Folder.read_faults l.fn.folder ≤ g.F.Folder.read_faults l.folder;
  writes : g.F.Folder.write_faults l.fn.folder ≤ g.F.Folder.write_faults l.folder;
}

abbrev pub decreases-loop-done : goal.decreases-loop-done
decreases-loop-done g l = l.frames - l.done

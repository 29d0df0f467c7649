use Rattle.std.proofs.Common.{◌≡◌, ◌≤◌, ◌+◌, ◌-◌, ◌*◌, take}
use Rattle.engine_model.specs.Cuttings.{HasRendered}
use Rattle.streaming.proofs.whole.render_whole.Given as goal

abbrev pub invariant-loop-done : goal.invariant-loop-done
invariant-loop-done g l = record {
  at : l.done ≤ l.frames;
  rendered : HasRendered l.fn.engine (take (l.done * l.ins) l.input) (take (l.done * l.outs) l.output) l.engine;
  count : l.engine.frames ≡ l.fn.engine.frames + l.done;
}

abbrev pub decreases-loop-done : goal.decreases-loop-done
decreases-loop-done g l = l.frames - l.done

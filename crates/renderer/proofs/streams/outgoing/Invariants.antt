use Rattle.std.proofs.Common.{◌≡◌, length}
use Rattle.graph_model.specs.Histories.{before, frame_in, interleaved}
use Rattle.graph_model.specs.Kinds.{ins_of, outs_of, stream_of}
use Rattle.fixed_kernels.specs.Kernels.{Keeps}
use Rattle.renderer.proofs.streams.outgoing.Given as goal

-- the frames so far
abbrev pub invariant-loop-time : goal.invariant-loop-time
invariant-loop-time l = record {
  kind : l.processor.kind ≡ l.kind;
  bound : l.processor.bound ≡ l.bound;
  stands : Keeps l.processor (before (frame_in (ins_of l.kind) l.incoming) l.time);
  wide : length l.frame.items ≡ outs_of l.kind;
  outgoing : l.outgoing ≡ interleaved (stream_of l.kind (before (frame_in (ins_of l.kind) l.incoming) l.time));
}

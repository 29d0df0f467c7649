use Rattle.engine.proofs.WrittenFacts.{WritingRows}
use Rattle.engine.proofs.output.write_frames.Given as goal

abbrev pub invariant-loop-channel : goal.invariant-loop-channel
invariant-loop-channel l = WritingRows l.leaving l.frames l.channels l.fn.output l.channel l.output

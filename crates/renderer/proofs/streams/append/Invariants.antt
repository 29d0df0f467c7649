use Rattle.std.proofs.Common.{◌≡◌, ◌++◌, take}
use Rattle.renderer.proofs.streams.append.Given as goal

-- the samples so far
abbrev pub invariant-loop-sample : goal.invariant-loop-sample
invariant-loop-sample l = l.samples ≡ l.initial.samples ++ take l.sample-index l.frame

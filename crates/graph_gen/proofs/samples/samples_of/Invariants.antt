-- The samples so far and those still to come are all of them.
use Rattle.std.proofs.Common.{◌≡◌, ◌*◌, ◌-◌, ◌++◌}
use Rattle.graph_gen.specs.Draws.{samples_drawn}
use Rattle.graph_gen.proofs.samples.samples_of.Given as goal

abbrev pub invariant-loop-sample : goal.invariant-loop-sample
invariant-loop-sample l = l.samples ++ samples_drawn l.draws.state (l._sample-end - l._sample) ≡ samples_drawn l.fn.seed (l.fn.frames * 2)

use Rattle.topology.specs.Reaches.{PulledUpTo}
use Rattle.topology.proofs.reaches.pull.Given as goal

abbrev pub invariant-loop-link : goal.invariant-loop-link
invariant-loop-link l = PulledUpTo l.links l.latencies l.at l.link-index l.v l.most

use Rattle.std.proofs.Common.{◌<◌, length, MatchOption}
use Rattle.topology.specs.Reaches.{FirstTightUpTo}
use Rattle.topology.proofs.reaches.step_back.Given as goal

abbrev pub invariant-loop-link : goal.invariant-loop-link
invariant-loop-link l = record {
  found : FirstTightUpTo l.uids l.links l.latencies l.at l.link-index l.v l.best;
  node : MatchOption l.best (Unit {0}) (λ b. b < length l.uids);
}

use Rattle.std.proofs.Common.{◌≡◌, ◌≤◌, ◌*◌, ◌^◌, take, sum_by}
use Rattle.alignment.specs.declared.links.Link.{Link}
use Rattle.alignment.proofs.carried.latencies.Given as goal

-- the sum so far
abbrev pub invariant-loop-link : goal.invariant-loop-link
invariant-loop-link l = record {
  sum : l.latencies ≡ sum_by (λ (k : Link). k.latency) (take l.link-index l.links);
  small : l.latencies ≤ l.link-index * 2 ^ 32;
}

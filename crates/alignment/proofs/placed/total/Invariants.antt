use Rattle.std.proofs.Common.{◌≡◌, ◌≤◌, ◌*◌, ◌^◌, take, sum_by}
use Rattle.alignment.specs.Places.{delay_of}
use Rattle.alignment.proofs.placed.total.Given as goal

-- the sum so far
abbrev pub invariant-loop-link : goal.invariant-loop-link
invariant-loop-link l = record {
  sum : l.total ≡ sum_by (delay_of l.potentials) (take l.link-index l.links);
  small : l.total ≤ l.link-index * 2 ^ 26;
}

use Rattle.std.proofs.Common.{◌≡◌, ℕ, ◌<◌, length, count_by, is_none, false}
use Rattle.topology.specs.Blocks.{is_taken}
use Rattle.topology.proofs.CycleFacts.{IsLed, IsPlaced}
use Rattle.topology.proofs.cycles.closed_walk.Given as goal

abbrev pub invariant-loop-p : goal.invariant-loop-p
invariant-loop-p l = record {
  node : l.v < length l.taken;
  fresh : is_taken l.taken l.v ≡ false;
  count : length l.places.items ≡ length l.taken;
  led : IsLed l.links l.walk.items l.v;
  placed : (u : ℕ) → u < length l.taken → IsPlaced l.links l.walk.items l.places.items u;
}

abbrev pub decreases-loop-p : goal.decreases-loop-p
decreases-loop-p l = count_by is_none l.places.items

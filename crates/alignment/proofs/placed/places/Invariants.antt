use Rattle.std.proofs.Common.{◌≡◌, ◌-◌, ◌≤◌, take, drop}
use Rattle.alignment.specs.Places.{places_of}
use Rattle.alignment.proofs.placed.places.Given as goal

-- the places so far
abbrev pub invariant-loop-point : goal.invariant-loop-point
invariant-loop-point l = record {
  some : 1 ≤ l.point;
  placed : l.places ≡ places_of (take (l.point - 1) (drop 1 l.points)) (take (l.point - 1) (drop 1 l.potentials));
}

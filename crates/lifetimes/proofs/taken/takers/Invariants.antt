use Rattle.std.proofs.Common.{◌≡◌, ◌≤◌, ◌-◌, ℕ, count_by, length, min, take}
use Rattle.std.specs.List.{All, Contains}
use Rattle.plan_model.specs.Buffers.{is_born_of, is_freed}
use Rattle.lifetimes.specs.Turns.{count_in}
use Rattle.lifetimes.proofs.taken.takers.Given as goal

abbrev pub invariant-loop-life : goal.invariant-loop-life
invariant-loop-life l = record {
  taken : (s a : ℕ) → count_by (is_born_of s a) l.takers.items ≡ min (count_by (is_born_of s a) (take l.life-index l.lives)) (count_by (is_freed s a) l.lives);
  left : (s a : ℕ) → count_in l.free s a ≡ count_by (is_freed s a) l.lives - count_by (is_born_of s a) (take l.life-index l.lives);
  among : All (Contains l.lives) l.takers.items;
  few : length l.takers.items ≤ l.life-index;
}

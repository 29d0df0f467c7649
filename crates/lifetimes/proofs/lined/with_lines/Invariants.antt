use Rattle.std.proofs.Common.{◌≡◌, ◌++◌, map}
use Rattle.std.specs.Iterator.Adapters.{zip_first, zip_second}
use Rattle.std.specs.List.{zip}
use Rattle.std.specs.Slice.Iter.{iter_rest}
use Rattle.plan_model.specs.SharedLives.{free_of}
use Rattle.lifetimes.proofs.lined.with_lines.Given as goal

-- what is made, and what is still to come, are the whole
abbrev pub invariant-loop-life : goal.invariant-loop-life
invariant-loop-life l =
    l.lined ++ map (λ p. free_of p.1.delay p.0) (zip (iter_rest (zip_first l.life-iterator)) (iter_rest (zip_second l.life-iterator))) ≡ map (λ p. free_of p.1.delay p.0) (zip l.lives l.lines)

use Rattle.std.proofs.Common.{◌≡◌, suc, max, drop, map, slice_index}
use Rattle.graph_model.specs.Paths.{greatest}
use Rattle.schedule.proofs.depths.depth_after.Given as goal

-- what is found so far, and what the others give
abbrev pub invariant-loop-source : goal.invariant-loop-source
invariant-loop-source l =
    max l.depth (greatest (map (λ s. suc (slice_index l.depths s)) (drop l.source-index l.sources))) ≡ greatest (map (λ s. suc (slice_index l.depths s)) l.sources)

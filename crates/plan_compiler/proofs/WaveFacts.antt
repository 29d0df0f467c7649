-- How many waves a schedule has.
use Rattle.std.proofs.Common.{suc, ◌≤◌, ◌<◌, List, [], ◌∷◌, length, map, arith}
use Rattle.std.specs.List.{All, flat_map}
use Rattle.std.proofs.lemmas.List.{length-map, length-append}
use Rattle.std.proofs.lemmas.List.Sums.{count_by-le-length, length-filter}
use Rattle.std.proofs.lemmas.List.Sorted.{length_permutation, Contains-permutation}
use Rattle.graph_model.specs.Graphs.{output_name}
use Rattle.graph_model.specs.Paths.{is_live, live_nodes}
use Rattle.graph_model.specs.Sound.{IsSound}
use Rattle.graph_model.specs.declared.graph.Graph.{Graph}
use Rattle.graph_model.proofs.LiveLaws.{output_live}
use Rattle.plan_model.proofs.CertifiedLaws.{stands_in}
use Rattle.plan_model.proofs.WaveLaws.{kept}
use Rattle.plan_model.specs.Schedules.{IsSchedule, names}
use Rattle.plan_model.specs.declared.schedule.Wave.{Wave}

-- no more than there are nodes, since none is empty
at_most_nodes : (ws : List Wave) → All (λ w. 0 < length w.nodes) ws → length ws ≤ length (flat_map names ws)
at_most_nodes [] h = omega arith
at_most_nodes (w ∷ ws) h =
    let first : 0 < length w.nodes = h 0 w (omega arith) in
    let rest = at_most_nodes ws (λ k d l. h (suc k) d (omega arith)) in
    omega (arith, first, rest, length-map w.nodes (λ u. u.0), length-append (names w) (flat_map names ws))

module _ (g : Graph) (waves : List Wave) (sound : IsSound g) (schedule : IsSchedule g waves) where
  -- at most 512
  pub few_waves : length waves ≤ 512
  few_waves =
      let once = length_permutation (live_nodes g) (flat_map names waves) schedule.once in
      let live = length-filter (is_live g) (map (λ n. n.uid.0) g.nodes) in
      let most = count_by-le-length (is_live g) (map (λ n. n.uid.0) g.nodes) in
      omega (arith, at_most_nodes waves schedule.filled, once, live, most, length-map g.nodes (λ n. n.uid.0), sound.fits.0)

  -- and at least one, since the output node is live
  pub some_wave : 1 ≤ length waves
  some_wave =
      let stands = stands_in (output_name g) waves
      (Contains-permutation (live_nodes g) (flat_map names waves) (output_name g) schedule.once (kept g sound waves (output_name g) (output_live g sound))) in
      omega (arith, stands)

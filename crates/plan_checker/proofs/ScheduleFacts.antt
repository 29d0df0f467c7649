-- How many waves a schedule has.
use Rattle.std.proofs.Common.{◌<◌, ◌≤◌, List, [], ◌∷◌, length, map, arith}
use Rattle.std.specs.List.{AllByRecursion, flat_map}
use Rattle.std.proofs.lemmas.List.{length-append, length-map}
use Rattle.std.proofs.lemmas.List.Elements.{recursion_from_All}
use Rattle.std.proofs.lemmas.List.Sorted.{length_permutation}
use Rattle.std.proofs.lemmas.List.Sums.{count_by-le-length, length-filter}
use Rattle.graph_model.specs.Paths.{is_live, live_nodes}
use Rattle.graph_model.specs.Sound.{Fits}
use Rattle.graph_model.specs.declared.graph.Graph.{Graph}
use Rattle.graph_model.specs.declared.graph.Node.{Node}
use Rattle.graph_model.specs.declared.graph.Uid.{Uid}
use Rattle.plan_model.specs.Schedules.{IsSchedule, names}
use Rattle.plan_model.specs.declared.schedule.Wave.{Wave}

-- each wave has a node
each_some : (ws : List Wave) → AllByRecursion (λ w. 0 < length w.nodes) ws → length ws ≤ length (flat_map names ws)
each_some [] filled = omega arith
each_some (w ∷ ws) filled =
    let rest = each_some ws filled.1 in
    let some = filled.0 in
    omega (arith, length-append (names w) (flat_map names ws), length-map w.nodes (λ (u : Uid). u.0))

-- and a node stands in one wave
pub few_waves : (g : Graph) (ws : List Wave) → Fits g → IsSchedule g ws → length ws ≤ 512
few_waves g ws fits s =
    let each = each_some ws (recursion_from_All (λ w. 0 < length w.nodes) ws s.filled) in
    let count = length-filter (is_live g) (map (λ n. n.uid.0) g.nodes) in
    let most = count_by-le-length (is_live g) (map (λ n. n.uid.0) g.nodes) in
    let long = length-map g.nodes (λ (n : Node). n.uid.0) in
    let nodes = fits.0 in
    omega (arith, length_permutation (live_nodes g) (flat_map names ws) s.once)

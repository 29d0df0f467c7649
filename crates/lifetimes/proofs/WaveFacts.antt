-- Waves of a schedule.
use Rattle.std.proofs.Common.{◌≡◌, ◌<◌, ◌≤◌, Bool, not, List, [], ◌∷◌, length, map, ap, ◌∙◌, arith, ⊎_elim, Some, None, unwrap_or}
use Rattle.std.specs.Prelude.{position}
use Rattle.std.specs.List.{All, position_or_len, flat_map}
use Rattle.std.proofs.lemmas.Bool.{cases_lt, lt-ltb, le-ltb, cond-true, cond-false}
use Rattle.std.proofs.lemmas.List.{length-map, length-append}
use Rattle.std.proofs.lemmas.List.Elements.{All-head, All-tail}
use Rattle.std.proofs.lemmas.List.Sorted.{length_permutation}
use Rattle.std.proofs.lemmas.List.Sums.{prefix_len-le-length, length-filter, count_by-le-length}
use Rattle.graph_model.specs.Paths.{is_live, live_nodes}
use Rattle.graph_model.specs.Sound.{IsSound}
use Rattle.graph_model.specs.declared.graph.Uid.{Uid}
use Rattle.graph_model.specs.declared.graph.Node.{Node}
use Rattle.graph_model.specs.declared.graph.Graph.{Graph}
use Rattle.plan_model.specs.Schedules.{IsSchedule, names}
use Rattle.plan_model.specs.declared.schedule.Wave.{Wave}

-- the first place that passes, or the length
pub place_or_length : {X : Type 0} (p : X → Bool) (xs : List X) → unwrap_or (position p xs) (length xs) ≡ position_or_len p xs
place_or_length p xs =
    ⊎_elim
    (λ lt. ap (λ o. unwrap_or o (length xs)) (cond-true _ (Some (position_or_len p xs)) None (lt-ltb (position_or_len p xs) (length xs) lt)))
    (λ ge. ap (λ o. unwrap_or o (length xs)) (cond-false _ (Some (position_or_len p xs)) None (le-ltb (position_or_len p xs) (length xs) ge))
    ∙ omega (arith, prefix_len-le-length (λ x. not (p x)) xs))
    (cases_lt (position_or_len p xs) (length xs))

-- waves that are filled are no more than their nodes
few_filled : (waves : List Wave) → All (λ w. 0 < length w.nodes) waves → length waves ≤ length (flat_map names waves)
few_filled [] h = omega arith
few_filled (w ∷ ws) h =
    let some : 0 < length w.nodes = All-head (λ x. 0 < length x.nodes) w ws h in
    omega (arith, length-append (names w) (flat_map names ws), length-map w.nodes (λ (u : Uid). u.0), few_filled ws (All-tail (λ x. 0 < length x.nodes) w ws h))

pub few_waves : (g : Graph) (waves : List Wave) → IsSound g → IsSchedule g waves → length waves ≤ 512
few_waves g waves sound s =
    let all = map (λ (n : Node). n.uid.0) g.nodes in
    omega (
      arith,
      few_filled waves s.filled,
      length_permutation (live_nodes g) (flat_map names waves) s.once,
      length-filter (is_live g) (map (λ n. n.uid.0) g.nodes),
      count_by-le-length (is_live g) (map (λ n. n.uid.0) g.nodes),
      length-map g.nodes (λ (n : Node). n.uid.0),
      sound.fits.0,
    )

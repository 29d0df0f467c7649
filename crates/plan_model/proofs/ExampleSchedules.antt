-- Schedules of three gains beside each other and a mixer of the three.
use Rattle.std.proofs.Common.{◌≡◌, ℕ, ◌<◌, ◌≤◌, List, [], ◌∷◌, length, refl, arith}
use Rattle.std.specs.List.{All}
use Rattle.std.specs.List.Sorted.{IsPermutation, IsStrictlyIncreasing}
use Rattle.std.proofs.lemmas.List.Elements.{All-contains, All-from_recursion}
use Rattle.std.proofs.lemmas.List.Sorted.{Contains-permutation}
use Rattle.graph_model.specs.Graphs.{IsJoined}
use Rattle.graph_model.specs.Paths.{leads, live_nodes, live_connections, IsLive, IsDepth, IsPathTo}
use Rattle.graph_model.proofs.Examples.{joined}
use Rattle.plan_model.specs.Schedules.{IsSchedule, IsByWaves, names, wave_of}
use Rattle.plan_model.specs.declared.schedule.Wave.{Wave}
use Rattle.plan_model.proofs.Examples.{wave, three_gains}
use Rattle.plan_model.proofs.ExampleTools.{rising, names_of, listed, no_longer, not_among}

abbrev pub in_turn : List Wave
in_turn = wave (1 ∷ []) ∷ wave (3 ∷ []) ∷ wave (4 ∷ []) ∷ wave (5 ∷ []) ∷ wave (6 ∷ []) ∷ wave (2 ∷ []) ∷ []

abbrev pub by_waves : List Wave
by_waves = wave (1 ∷ []) ∷ wave (3 ∷ 4 ∷ 5 ∷ []) ∷ wave (6 ∷ []) ∷ wave (2 ∷ []) ∷ []

once_each : IsPermutation (live_nodes three_gains) (1 ∷ 3 ∷ 4 ∷ 5 ∷ 6 ∷ 2 ∷ [])
unfolding three_gains leads
once_each = record {
  moves = (4, 5) ∷ (3, 4) ∷ (2, 3) ∷ (1, 2) ∷ [];
  below = (omega arith, omega arith, (omega arith, omega arith, (omega arith, omega arith, (omega arith, omega arith, tt))));
  is = refl;
}

pub in_turn_is : IsSchedule three_gains in_turn
unfolding three_gains leads
in_turn_is = record {
  filled = All-from_recursion (λ w. 0 < length w.nodes) in_turn (omega arith, (omega arith, (omega arith, (omega arith, (omega arith, (omega arith, tt))))));
  rising = All-from_recursion (λ w. IsStrictlyIncreasing (names w)) in_turn
      (rising (1 ∷ []) tt, (rising (3 ∷ []) tt, (rising (4 ∷ []) tt, (rising (5 ∷ []) tt, (rising (6 ∷ []) tt, (rising (2 ∷ []) tt, tt))))));
  once = once_each;
  later = All-from_recursion (λ c. wave_of in_turn c.src.0 < wave_of in_turn c.dst.0) (live_connections three_gains)
      (omega arith, (omega arith, (omega arith, (omega arith, (omega arith, (omega arith, (omega arith, tt)))))));
}

pub by_waves_is : IsSchedule three_gains by_waves
unfolding three_gains leads
by_waves_is = record {
  filled = All-from_recursion (λ w. 0 < length w.nodes) by_waves (omega arith, (omega arith, (omega arith, (omega arith, tt))));
  rising = All-from_recursion (λ w. IsStrictlyIncreasing (names w)) by_waves
      (rising (1 ∷ []) tt, (rising (3 ∷ 4 ∷ 5 ∷ []) (omega arith, (omega arith, tt)), (rising (6 ∷ []) tt, (rising (2 ∷ []) tt, tt))));
  once = once_each;
  later = All-from_recursion (λ c. wave_of by_waves c.src.0 < wave_of by_waves c.dst.0) (live_connections three_gains)
      (omega arith, (omega arith, (omega arith, (omega arith, (omega arith, (omega arith, (omega arith, tt)))))));
}

-- the number of a wave is the greatest number of connections on a path into its nodes
joined_3 : IsJoined three_gains 1 3
unfolding three_gains
joined_3 = (joined 1 0 3 0, (0, omega arith, refl), refl, refl)

joined_4 : IsJoined three_gains 1 4
unfolding three_gains
joined_4 = (joined 1 0 4 0, (1, omega arith, refl), refl, refl)

joined_5 : IsJoined three_gains 1 5
unfolding three_gains
joined_5 = (joined 1 0 5 0, (2, omega arith, refl), refl, refl)

joined_6 : IsJoined three_gains 3 6
unfolding three_gains
joined_6 = (joined 3 0 6 0, (3, omega arith, refl), refl, refl)

joined_2 : IsJoined three_gains 6 2
unfolding three_gains
joined_2 = (joined 6 0 2 0, (6, omega arith, refl), refl, refl)

rises : All (λ c. wave_of by_waves c.src.0 < wave_of by_waves c.dst.0) three_gains.connections
unfolding three_gains
rises = All-from_recursion (λ c. wave_of by_waves c.src.0 < wave_of by_waves c.dst.0) three_gains.connections
    (omega arith, (omega arith, (omega arith, (omega arith, (omega arith, (omega arith, (omega arith, tt)))))))

deep : (v : ℕ) → (us : List ℕ) × IsPathTo three_gains v us × (length us ≡ wave_of by_waves v) → IsDepth three_gains v (wave_of by_waves v)
deep v reached = record { reached = reached; most = no_longer three_gains (wave_of by_waves) rises v }

depths : All (λ v. IsDepth three_gains v (wave_of by_waves v)) (names_of three_gains)
unfolding three_gains
depths = All-from_recursion (λ v. IsDepth three_gains v (wave_of by_waves v)) (names_of three_gains) (
  deep 1 ([], refl, refl),
  (
    deep 2 (6 ∷ 3 ∷ 1 ∷ [], (refl, joined_2, (refl, joined_6, (refl, joined_3, refl))), refl),
    (
      deep 3 (1 ∷ [], (refl, joined_3, refl), refl),
      (
        deep 4 (1 ∷ [], (refl, joined_4, refl), refl),
        (deep 5 (1 ∷ [], (refl, joined_5, refl), refl), (deep 6 (3 ∷ 1 ∷ [], (refl, joined_6, (refl, joined_3, refl)), refl), tt)),
      ),
    ),
  ),
)

pub by_waves_by_waves : IsByWaves three_gains by_waves
by_waves_by_waves = record { schedule = by_waves_is; deepest = λ v live. All-contains (λ w. IsDepth three_gains w (wave_of by_waves w)) (names_of three_gains) v depths (listed three_gains v live) }

live_4 : IsLive three_gains 4
unfolding three_gains
live_4 = (6 ∷ 4 ∷ 1 ∷ [], (refl, joined_2, (refl, (joined 4 0 6 1, (4, omega arith, refl), refl, refl), (refl, joined_4, refl))), (2, omega arith, refl))

-- a wave too late for a node that one connection reaches
later_than_needed : IsByWaves three_gains in_turn → ⊥
later_than_needed w =
    let two : IsDepth three_gains 4 2 = w.deepest 4 live_4 in
    let one : length two.reached.0 ≤ 1 = no_longer three_gains (wave_of by_waves) rises 4 two.reached.0 two.reached.1 in
    omega (arith, two.reached.2)

-- refused: a node beside its source, a wave that descends, a live node left out
beside_its_source : IsSchedule three_gains (wave (1 ∷ 3 ∷ []) ∷ wave (4 ∷ 5 ∷ []) ∷ wave (6 ∷ []) ∷ wave (2 ∷ []) ∷ []) → ⊥
unfolding three_gains leads
beside_its_source s = let l : 0 < 0 = s.later 0 (joined 1 0 3 0) (omega arith) in absurd (omega arith)

descending : IsSchedule three_gains (wave (1 ∷ []) ∷ wave (5 ∷ 4 ∷ 3 ∷ []) ∷ wave (6 ∷ []) ∷ wave (2 ∷ []) ∷ []) → ⊥
descending s = let l : 5 < 4 = s.rising 1 (wave []) (omega arith) 0 (omega arith) in absurd (omega arith)

left_out : IsSchedule three_gains (wave (1 ∷ []) ∷ wave (3 ∷ 4 ∷ []) ∷ wave (6 ∷ []) ∷ wave (2 ∷ []) ∷ []) → ⊥
unfolding three_gains leads
left_out s = not_among (1 ∷ 3 ∷ 4 ∷ 6 ∷ 2 ∷ []) 5 refl (Contains-permutation (live_nodes three_gains) (1 ∷ 3 ∷ 4 ∷ 6 ∷ 2 ∷ []) 5 s.once (4, omega arith, refl))

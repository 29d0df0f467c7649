-- The definitions at small streams and graphs, by computation.
use Rattle.std.proofs.Common.{◌≡◌, ℕ, zero, suc, ◌<◌, List, [], ◌∷◌, ℤ, pos, ◌+ℤ◌, refl, arith}
use Rattle.std.proofs.lemmas.Int.{ints}
use Rattle.graph_model.proofs.Examples.{fan_out}
use Rattle.renderer.specs.Positions.{position_at}
use Rattle.renderer.specs.Routes.{IsAdded, sample_in, sample_before}
use Rattle.renderer.specs.declared.routes.Channel.{Channel}
use Rattle.renderer.specs.declared.routes.Route.{Route}

-- two frames of two channels
abbrev stereo : List ℤ
stereo = pos 1 ∷ pos 2 ∷ pos 3 ∷ pos 4 ∷ []

abbrev right : Channel
right = record { at = 1; of = 2 }

one_frame_before : sample_before stereo right 1 1 ≡ pos 2
one_frame_before = refl

nothing_before_the_first_frame : sample_before stereo right 1 0 ≡ pos 0
nothing_before_the_first_frame = refl

-- the right channel into one channel, a frame late
abbrev into_mono : Route
into_mono = record { src = 0; from = right; dst = 1; to = record { at = 0; of = 1 }; delay = 1 }

a_channel_is_added_late : IsAdded 2 into_mono stereo (pos 10 ∷ pos 20 ∷ []) (pos 10 ∷ pos 22 ∷ [])
a_channel_is_added_late = record { added = at; others = λ t c lt lc ne. absurd (ne (omega arith)) }
  where
    at : (t : ℕ) → t < 2 → sample_in (pos 10 ∷ pos 22 ∷ []) into_mono.to t ≡ sample_in (pos 10 ∷ pos 20 ∷ []) into_mono.to t +ℤ sample_before stereo into_mono.from into_mono.delay t
    at zero lt = refl
    at (suc zero) lt = refl
    at (suc (suc t)) lt = absurd (omega arith)

-- the sample of the same frame is another one
not_in_time : IsAdded 2 into_mono stereo (pos 10 ∷ pos 20 ∷ []) (pos 10 ∷ pos 24 ∷ []) → ⊥
not_in_time a = let e : pos 24 ≡ pos 22 = a.added 1 (omega arith) in absurd (omega (arith, ints))

-- what was there is kept
not_in_its_place : IsAdded 2 into_mono stereo (pos 10 ∷ pos 20 ∷ []) (pos 10 ∷ pos 2 ∷ []) → ⊥
not_in_its_place a = let e : pos 2 ≡ pos 22 = a.added 1 (omega arith) in absurd (omega (arith, ints))

-- the third node of the list is named 3; no node is named 9
a_position_by_name : position_at fan_out (0 ∷ 5 ∷ 7 ∷ 0 ∷ []) 3 ≡ 7
unfolding fan_out
a_position_by_name = refl

no_position_of_no_node : position_at fan_out (1 ∷ 5 ∷ 7 ∷ 2 ∷ []) 9 ≡ 0
unfolding fan_out
no_position_of_no_node = refl

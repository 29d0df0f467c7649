-- Values, lives, needs and assignments of three gains and a mixer, one by one and in waves.
use Rattle.std.proofs.Common.{◌≡◌, ℕ, zero, suc, ◌<◌, List, [], ◌∷◌, map, refl, ap, ◌∙◌, arith, Option, Some, None, inl, inr}
use Rattle.std.specs.Prelude.{◌≢◌}
use Rattle.std.specs.List.{Contains, zip}
use Rattle.std.proofs.lemmas.List.Elements.{All-from_recursion}
use Rattle.graph_model.specs.Paths.{leads, live_connections}
use Rattle.graph_model.specs.declared.graph.Connection.{Connection}
use Rattle.graph_model.specs.declared.graph.Uid.{Uid}
use Rattle.graph_model.proofs.Examples.{joined}
use Rattle.plan_model.specs.Lives.{Port, source, ports_of, AreValues, AreLivesOf, lives_of, IsBefore}
use Rattle.plan_model.specs.Buffers.{need_of_wave, saved, bearers, IsAssignment, MayShare, AreLives, IsLifeBefore}
use Rattle.plan_model.specs.Rules.{IsPeak}
use Rattle.plan_model.specs.declared.buffers.Home.{Home}
use Rattle.plan_model.specs.declared.buffers.Life.{Life}
use Rattle.plan_model.proofs.Examples.{name, home, life, three_gains, gain_values}
use Rattle.plan_model.proofs.ExampleTools.{pairs}
use Rattle.plan_model.proofs.ExampleSchedules.{in_turn, by_waves}
use Rattle.plan_model.proofs.CertifiedLaws.{need_le}
use Rattle.plan_model.proofs.UniqueLaws.{values_are_unique}

-- the values: an output channel of each node but the output node
abbrev IsRead : Port → Type 0
IsRead x = (c : Connection) × Contains (live_connections three_gains) c × (source c ≡ x)

abbrev HasPort : Connection → Type 0
HasPort c = Contains (ports_of gain_values) (source c)

values_are : AreValues three_gains (ports_of gain_values)
unfolding three_gains leads
values_are = record {
  ascending = pairs IsBefore (ports_of gain_values) (
    (inl (omega arith), (inl (omega arith), (inl (omega arith), (inl (omega arith), tt)))),
    ((inl (omega arith), (inl (omega arith), (inl (omega arith), tt))), ((inl (omega arith), (inl (omega arith), tt)), ((inl (omega arith), tt), (tt, tt)))),
  );
  each = All-from_recursion IsRead (ports_of gain_values) (
    (joined 1 0 3 0, (0, omega arith, refl), refl),
    (
      (joined 3 0 6 0, (3, omega arith, refl), refl),
      ((joined 4 0 6 1, (4, omega arith, refl), refl), ((joined 5 0 6 2, (5, omega arith, refl), refl), ((joined 6 0 2 0, (6, omega arith, refl), refl), tt))),
    ),
  );
  all = All-from_recursion HasPort (live_connections three_gains) (
    (0, omega arith, refl),
    (
      (0, omega arith, refl),
      ((0, omega arith, refl), ((1, omega arith, refl), ((2, omega arith, refl), ((3, omega arith, refl), ((4, omega arith, refl), tt))))),
    ),
  );
}

-- one by one, gain 5 is the last to read the input
abbrev lives_in_turn : List Life
lives_in_turn = life 1 0 0 3 (Some (name 5)) ∷ life 3 0 1 4 (Some (name 6)) ∷ life 4 0 2 4 (Some (name 6)) ∷ life 5 0 3 4 (Some (name 6)) ∷ life 6 0 4 5 (Some (name 2)) ∷ []

in_turn_lives : AreLivesOf three_gains in_turn lives_in_turn
unfolding three_gains leads
in_turn_lives = (ports_of gain_values, values_are, refl)

-- in waves, all three gains read it in one wave, and so it has no sole reader
abbrev lives_by_waves : List Life
lives_by_waves = life 1 0 0 1 None ∷ life 3 0 1 2 (Some (name 6)) ∷ life 4 0 1 2 (Some (name 6)) ∷ life 5 0 1 2 (Some (name 6)) ∷ life 6 0 2 3 (Some (name 2)) ∷ []

by_waves_lives : AreLivesOf three_gains by_waves lives_by_waves
unfolding three_gains leads
by_waves_lives = (ports_of gain_values, values_are, refl)

-- refused: a sole reader where three read, and a value left out
only_by_waves : (lives : List Life) → AreLivesOf three_gains by_waves lives → lives ≡ lives_by_waves
unfolding three_gains leads
only_by_waves lives (ports, are, e) = e ∙ ap (lives_of three_gains by_waves) (values_are_unique three_gains ports (ports_of gain_values) are values_are)

first_reader : List Life → Option Uid
first_reader [] = None
first_reader (x ∷ xs) = x.reader

not_sole : AreLivesOf three_gains by_waves
    (life 1 0 0 1 (Some (name 3)) ∷ life 3 0 1 2 (Some (name 6)) ∷ life 4 0 1 2 (Some (name 6)) ∷ life 5 0 1 2 (Some (name 6)) ∷ life 6 0 2 3 (Some (name 2)) ∷ [])
    → ⊥
unfolding first_reader
not_sole a = let e : Some (name 3) ≡ None = ap first_reader (only_by_waves _ a) in absurd (cc)

value_left_out : AreLivesOf three_gains by_waves
    (life 1 0 0 1 None ∷ life 3 0 1 2 (Some (name 6)) ∷ life 4 0 1 2 (Some (name 6)) ∷ life 6 0 2 3 (Some (name 2)) ∷ [])
    → ⊥
value_left_out a = let e = only_by_waves _ a in absurd (cc)

-- one by one: gain 5 writes over the input, the mixer over gain 3, so three buffers do
abbrev homes_in_turn : List Home
homes_in_turn = home 1 0 0 ∷ home 3 0 1 ∷ home 4 0 2 ∷ home 5 0 0 ∷ home 6 0 1 ∷ []

abbrev Apart : Life × Home → Life × Home → Type 0
Apart x y = x.1.buffer ≡ y.1.buffer → MayShare x.0 y.0

three_buffers : IsAssignment lives_in_turn homes_in_turn 3
three_buffers = record {
  values = ((refl, refl), ((refl, refl), ((refl, refl), ((refl, refl), ((refl, refl), tt)))));
  apart = pairs Apart (zip lives_in_turn homes_in_turn) (
    ((λ same. absurd (omega arith)), ((λ same. absurd (omega arith)), ((λ same. inl (inr (refl, refl))), ((λ same. absurd (omega arith)), tt)))),
    (
      ((λ same. absurd (omega arith)), ((λ same. absurd (omega arith)), ((λ same. inl (inr (refl, refl))), tt))),
      (((λ same. absurd (omega arith)), ((λ same. absurd (omega arith)), tt)), (((λ same. absurd (omega arith)), tt), (tt, tt))),
    ),
  );
  below = All-from_recursion (λ h. h.buffer < 3) homes_in_turn (omega arith, (omega arith, (omega arith, (omega arith, (omega arith, tt)))));
}

-- in waves each gain has a buffer of its own beside the input's, which the mixer may have a wave later
abbrev homes_by_waves : List Home
homes_by_waves = home 1 0 0 ∷ home 3 0 1 ∷ home 4 0 2 ∷ home 5 0 3 ∷ home 6 0 0 ∷ []

four_buffers : IsAssignment lives_by_waves homes_by_waves 4
four_buffers = record {
  values = ((refl, refl), ((refl, refl), ((refl, refl), ((refl, refl), ((refl, refl), tt)))));
  apart = pairs Apart (zip lives_by_waves homes_by_waves) (
    ((λ same. absurd (omega arith)), ((λ same. absurd (omega arith)), ((λ same. absurd (omega arith)), ((λ same. inl (inl (omega arith))), tt)))),
    (
      ((λ same. absurd (omega arith)), ((λ same. absurd (omega arith)), ((λ same. absurd (omega arith)), tt))),
      (((λ same. absurd (omega arith)), ((λ same. absurd (omega arith)), tt)), (((λ same. absurd (omega arith)), tt), (tt, tt))),
    ),
  );
  below = All-from_recursion (λ h. h.buffer < 4) homes_by_waves (omega arith, (omega arith, (omega arith, (omega arith, (omega arith, tt)))));
}

-- refused: two values of one wave in one buffer
pub overlap : (x y : Life) → y.born < x.dies → x.born < y.dies → MayShare x y → ⊥
overlap x y l m (inl (inl f)) = omega arith
overlap x y l m (inl (inr f)) = omega (arith, f.0)
overlap x y l m (inr (inl f)) = omega arith
overlap x y l m (inr (inr f)) = omega (arith, f.0)

beside_each_other : IsAssignment lives_by_waves (home 1 0 0 ∷ home 3 0 1 ∷ home 4 0 1 ∷ home 5 0 2 ∷ home 6 0 0 ∷ []) 3 → ⊥
beside_each_other a = overlap (life 3 0 1 2 (Some (name 6))) (life 4 0 1 2 (Some (name 6))) (omega arith) (omega arith)
    (a.apart 1 2 (life 3 0 1 2 (Some (name 6)), home 3 0 1) (omega arith) (omega arith) refl)

-- refused: gain 3 over the input, which gains 4 and 5 still read
still_read : MayShare (life 1 0 0 1 None) (life 3 0 1 2 (Some (name 6))) → ⊥
still_read (inl (inl f)) = omega arith
still_read (inl (inr f)) = let e = f.1 in absurd (cc)
still_read (inr (inl f)) = omega arith
still_read (inr (inr f)) = omega (arith, f.0)

written_over : IsAssignment lives_by_waves (home 1 0 0 ∷ home 3 0 0 ∷ home 4 0 1 ∷ home 5 0 2 ∷ home 6 0 0 ∷ []) 3 → ⊥
written_over a = still_read (a.apart 0 1 (life 3 0 1 2 (Some (name 6)), home 3 0 1) (omega arith) (omega arith) refl)

-- refused: a buffer at the number of channels
too_great : IsAssignment lives_by_waves homes_by_waves 3 → ⊥
too_great a = let l : 3 < 3 = a.below 3 (home 5 0 3) (omega arith) in absurd (omega arith)

-- the needs, wave by wave
needs_in_turn : map (need_of_wave lives_in_turn) (0 ∷ 1 ∷ 2 ∷ 3 ∷ 4 ∷ 5 ∷ []) ≡ 1 ∷ 2 ∷ 3 ∷ 3 ∷ 3 ∷ 1 ∷ []
unfolding need_of_wave saved bearers
needs_in_turn = refl

needs_by_waves : map (need_of_wave lives_by_waves) (0 ∷ 1 ∷ 2 ∷ 3 ∷ []) ≡ 1 ∷ 4 ∷ 3 ∷ 1 ∷ []
unfolding need_of_wave saved bearers
needs_by_waves = refl

-- no assignment at all has three channels in waves
no_three : (homes : List Home) → IsAssignment lives_by_waves homes 3 → ⊥
unfolding need_of_wave saved bearers
no_three homes a = omega (arith, need_le lives_by_waves 4 lives homes 3 1 a)
  where
    lives : AreLives lives_by_waves 4
    lives = record {
      ascending = pairs IsLifeBefore lives_by_waves (
        (inl (omega arith), (inl (omega arith), (inl (omega arith), (inl (omega arith), tt)))),
        ((inl (omega arith), (inl (omega arith), (inl (omega arith), tt))), ((inl (omega arith), (inl (omega arith), tt)), ((inl (omega arith), tt), (tt, tt)))),
      );
      within = All-from_recursion (λ x. (x.born < x.dies) × (x.dies < 4)) lives_by_waves
          ((omega arith, omega arith), ((omega arith, omega arith), ((omega arith, omega arith), ((omega arith, omega arith), ((omega arith, omega arith), tt)))));
    }

peak_in_turn : IsPeak lives_in_turn 6 3 2
unfolding need_of_wave saved bearers
peak_in_turn = record { wave = omega arith; full = refl; first = earlier }
  where
    earlier : (s : ℕ) → s < 2 → need_of_wave lives_in_turn s ≢ 3
    earlier zero l e = absurd (omega (arith, e))
    earlier (suc zero) l e = absurd (omega (arith, e))
    earlier (suc (suc s)) l e = absurd (omega arith)

peak_by_waves : IsPeak lives_by_waves 4 4 1
unfolding need_of_wave saved bearers
peak_by_waves = record { wave = omega arith; full = refl; first = earlier }
  where
    earlier : (s : ℕ) → s < 1 → need_of_wave lives_by_waves s ≢ 4
    earlier zero l e = absurd (omega (arith, e))
    earlier (suc s) l e = absurd (omega arith)

-- refused: a peak one wave late, which has as much or not enough
as_much_before : IsPeak lives_in_turn 6 3 3 → ⊥
unfolding need_of_wave saved bearers
as_much_before p = p.first 2 (omega arith) refl

not_enough : IsPeak lives_by_waves 4 4 2 → ⊥
unfolding need_of_wave saved bearers
not_enough p = omega (arith, p.full)

-- The function finds the live range of a value that has a line, and finds nothing else.
use Rattle.std.proofs.Common.{◌≡◌, ℕ, zero, suc, ◌≤◌, List, [], ◌∷◌, map, refl, sym, ap, subst, ◌∙◌, arith, inl, inr, ◌==◌, ◌&&◌, Bool, true, false, Option, Some, None}
use Rattle.std.specs.Prelude.{AllPairs}
use Rattle.std.specs.List.{AllByRecursion}
use Rattle.std.proofs.lemmas.Bool.{ne_eqb}
use Rattle.std.proofs.lemmas.List.Elements.{All-contains, recursion_from_All}
use Rattle.graph_model.proofs.PathLaws.{same_name, and_both}
use Rattle.graph_model.specs.declared.graph.Uid.{Uid}
use Rattle.graph_model.specs.declared.graph.Graph.{Graph}
use Rattle.plan_model.specs.Schedules.{wave_of}
use Rattle.plan_model.specs.Pairs.{ComesBefore}
use Rattle.plan_model.specs.Lives.{Port, IsBefore, reads_of, life_of, IsLife, values}
use Rattle.plan_model.specs.SharedLines.{length_in, ports_of_lines}
use Rattle.plan_model.specs.SharedLives.{free_reader, free_of, shared_lives_of, IsSharedLife, SharedLifeIsFound, SharedFoundIsLife}
use Rattle.plan_model.specs.declared.schedule.Wave.{Wave}
use Rattle.plan_model.specs.declared.buffers.Life.{Life}
use Rattle.plan_model.specs.declared.shared.LineOf.{LineOf}
use Rattle.plan_model.proofs.LifeLaws.{life_is_found, found_is_life}
use Rattle.plan_model.proofs.SharedBestLaws.{from_map}
use Rattle.plan_model.proofs.ValueLaws.{values_are_listed}

-- ---- lines that name values in their order
abbrev port_of : LineOf → Port
port_of l = record { uid = l.uid; channel = l.channel }

and_false : (b : Bool) → (b && false) ≡ false
and_false true = refl
and_false false = refl

other_name : (a b c d : ℕ) → ComesBefore (a, c) (b, d) → ((a == b) && (c == d)) ≡ false
other_name a b c d (inl less) = rw (ne_eqb a b (λ e. omega arith)) refl
other_name a b c d (inr r) = rw (ne_eqb c d (λ e. omega (arith, r.1))) (and_false (a == b))

later_lengths : (l : LineOf) (ls ms : List LineOf) → AllByRecursion (λ m. IsBefore (port_of l) (port_of m)) ms
    → AllByRecursion (λ m. length_in ls (port_of m) ≡ m.delay) ms → AllByRecursion (λ m. length_in (l ∷ ls) (port_of m) ≡ m.delay) ms
later_lengths l ls [] after same = tt
later_lengths l ls (m ∷ ms) after same =
    (rw (other_name l.uid.0 m.uid.0 l.channel m.channel after.0) same.0, later_lengths l ls ms after.1 same.1)

-- each has its own length
own_lengths : (lines : List LineOf) → AllPairs IsBefore (ports_of_lines lines) → AllByRecursion (λ m. length_in lines (port_of m) ≡ m.delay) lines
own_lengths [] rising = tt
own_lengths (l ∷ ls) rising =
    let after : AllByRecursion (IsBefore (port_of l)) (ports_of_lines ls) =
    recursion_from_All (IsBefore (port_of l)) (ports_of_lines ls) (λ k d lt. rising 0 (suc k) d (omega arith) (omega arith)) in (
      rw (and_both _ _ (same_name l.uid.0) (same_name l.channel)) refl,
      later_lengths l ls ls (from_map (IsBefore (port_of l)) port_of ls after) (own_lengths ls (λ i j d less lt. rising (suc i) (suc j) d (omega arith) (omega arith))),
    )

lives_same : (g : Graph) (waves : List Wave) (lines ms : List LineOf) → AllByRecursion (λ m. length_in lines (port_of m) ≡ m.delay) ms
    → shared_lives_of g waves lines (ports_of_lines ms) ≡ map (λ m. free_of m.delay (life_of g waves m.uid m.channel)) ms
lives_same g waves lines [] same = refl
lives_same g waves lines (m ∷ ms) same = λ i. free_of (same.0 i) (life_of g waves m.uid m.channel) ∷ lives_same g waves lines ms same.1 i

-- the live ranges go entry by entry with the lines
pub lives_by_lines : (g : Graph) (waves : List Wave) (lines : List LineOf) → ports_of_lines lines ≡ values g
    → shared_lives_of g waves lines (values g) ≡ map (λ m. free_of m.delay (life_of g waves m.uid m.channel)) lines
lives_by_lines g waves lines named =
    ap (shared_lives_of g waves lines) (sym named)
    ∙ lives_same g waves lines lines (own_lengths lines (subst (AllPairs IsBefore) (sym named) (values_are_listed g).ascending))

-- ---- the free reader
free_is_sole : (n : ℕ) (o : Option Uid) (u : Uid) → free_reader n o ≡ Some u → (o ≡ Some u) × (n ≡ 0)
free_is_sole zero o u e = (e, refl)
free_is_sole (suc n) o u e = absurd (cc)

none_is_sole : (n : ℕ) (o : Option Uid) → free_reader n o ≡ None → n ≡ 0 → o ≡ None
none_is_sole zero o e z = e
none_is_sole (suc n) o e z = absurd (omega arith)

module _ (g : Graph) (waves : List Wave) (lines : List LineOf) (x : Life) (is : IsSharedLife g waves lines x) where
  abbrev port : Port
  port = record { uid = x.uid; channel = x.channel }

  own : IsLife g waves (life_of g waves x.uid x.channel)
  own = found_is_life g waves x.uid x.channel is.last.0 is.last.1

  same_death : x.dies ≡ (life_of g waves x.uid x.channel).dies
  same_death =
      let a : wave_of waves is.last.0.dst.0 ≤ (life_of g waves x.uid x.channel).dies =
      All-contains (λ c. wave_of waves c.dst.0 ≤ (life_of g waves x.uid x.channel).dies) (reads_of g x.uid x.channel) is.last.0 own.none_later is.last.1 in
      let b : wave_of waves own.last.0.dst.0 ≤ x.dies =
      All-contains (λ c. wave_of waves c.dst.0 ≤ x.dies) (reads_of g x.uid x.channel) own.last.0 is.none_later own.last.1 in
      omega (arith, is.last.2, own.last.2)

  no_reader : (n : ℕ) → length_in lines port ≡ suc n → (o : Option Uid) → x.reader ≡ o → x.reader ≡ None
  no_reader n long None e = e
  no_reader n long (Some u) e = let z = is.empty u e in absurd (omega arith)

  found : (n : ℕ) → length_in lines port ≡ n → x ≡ free_of n (life_of g waves x.uid x.channel)
  found zero e =
      life_is_found g waves x (record { born = is.born; last = is.last; none_later = is.none_later; only = is.only; several = λ none. is.several none e })
  found (suc n) e = λ i. record { uid = x.uid; channel = x.channel; born = is.born i; dies = same_death i; reader = no_reader n e x.reader refl i }

pub shared_life_is_found : SharedLifeIsFound
shared_life_is_found g waves lines x is = found g waves lines x is (length_in lines (record { uid = x.uid; channel = x.channel })) refl

pub shared_found_is_life : SharedFoundIsLife
shared_found_is_life g waves lines x c has =
    let own : IsLife g waves (life_of g waves x.uid x.channel) = found_is_life g waves x.uid x.channel c has in
    record {
      born = own.born;
      last = own.last;
      none_later = own.none_later;
      only = λ u e. own.only u (free_is_sole (length_in lines x) (life_of g waves x.uid x.channel).reader u e).0;
      empty = λ u e. (free_is_sole (length_in lines x) (life_of g waves x.uid x.channel).reader u e).1;
      several = λ e z. own.several (none_is_sole (length_in lines x) (life_of g waves x.uid x.channel).reader e z);
    }

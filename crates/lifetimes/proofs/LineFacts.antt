-- Lives of values with delay lines.
use Rattle.std.proofs.Common.{◌≡◌, ◌≤◌, List, [], ◌∷◌, length, map, refl, sym, ap, subst, ◌∙◌, ◌⊎◌, inl, inr, arith}
use Rattle.std.specs.List.{zip}
use Rattle.std.proofs.lemmas.List.{length-map}
use Rattle.graph_model.specs.Sound.{IsSound}
use Rattle.graph_model.specs.declared.graph.Graph.{Graph}
use Rattle.plan_model.specs.Buffers.{AreLives}
use Rattle.plan_model.specs.Lives.{Port, life_of, lives_of, values}
use Rattle.plan_model.specs.Schedules.{IsSchedule}
use Rattle.plan_model.specs.SharedLines.{ports_of_lines}
use Rattle.plan_model.specs.SharedLives.{free_of, shared_life_of, shared_lives_of}
use Rattle.plan_model.specs.declared.buffers.Life.{Life}
use Rattle.plan_model.specs.declared.schedule.Wave.{Wave}
use Rattle.plan_model.specs.declared.shared.LineOf.{LineOf}
use Rattle.plan_model.proofs.SharedCertifiedLaws.{are_shared_lives}
use Rattle.plan_model.proofs.SharedLifeLaws.{lives_by_lines}
use Rattle.plan_model.proofs.ValueLaws.{values_are_listed}

-- nothing is paired where one of two lists is at its end
pub nothing_left : {A B : Type 0} (xs : List A) (ys : List B) → (xs ≡ []) ⊎ (ys ≡ []) → zip xs ys ≡ []
nothing_left xs ys (inl e) = ap (λ l. zip l ys) e
nothing_left [] ys (inr e) = refl
nothing_left (x ∷ xs) ys (inr e) = ap (zip (x ∷ xs)) e

abbrev pub with_line : Life × LineOf → Life
with_line p = free_of p.1.delay p.0

module _ (g : Graph) (waves : List Wave) (lines : List LineOf) (named : ports_of_lines lines ≡ values g) where
  each_line : (ms : List LineOf) → map with_line (zip (lives_of g waves (ports_of_lines ms)) ms) ≡ map (λ m. free_of m.delay (life_of g waves m.uid m.channel)) ms
  each_line [] = refl
  each_line (m ∷ ms) = λ i. free_of m.delay (life_of g waves m.uid m.channel) ∷ each_line ms i

  -- the lives of the values, each with its own line
  pub lives_with_lines : (lives shared : List Life) → lives ≡ lives_of g waves (values g) → shared ≡ map with_line (zip lives lines)
      → shared ≡ shared_lives_of g waves lines (values g)
  lives_with_lines lives shared are is =
      is
      ∙ ap (λ xs. map with_line (zip xs lines)) (are ∙ ap (lives_of g waves) (sym named))
      ∙ each_line lines
      ∙ sym (lives_by_lines g waves lines named)

  pub shared_usable : IsSound g → IsSchedule g waves → (shared : List Life) → shared ≡ shared_lives_of g waves lines (values g) → AreLives shared (length waves)
  shared_usable sound schedule shared is =
      subst (λ xs. AreLives xs (length waves)) (sym is) (are_shared_lives g waves lines (values g) sound schedule (values_are_listed g))

  pub shared_few : (lives shared : List Life) → lives ≡ lives_of g waves (values g) → shared ≡ shared_lives_of g waves lines (values g) → length lives ≤ 8192 → length shared ≤ 8192
  shared_few lives shared are is few =
      omega (
        arith,
        few,
        ap (λ (xs : List Life). length xs) are,
        length-map (values g) (λ (x : Port). life_of g waves x.uid x.channel),
        ap (λ (xs : List Life). length xs) is,
        length-map (values g) (shared_life_of g waves lines),
      )

-- There is one answer of a checker that says no: the first rule that fails is one, and its place is.
use Rattle.std.proofs.Common.{◌≡◌, ℕ, ◌<◌, ◌==◌, List, [], ◌∷◌, length, map, get_or, refl, sym, ap, subst, ◌∙◌, arith, inl, inr}
use Rattle.std.specs.List.{common_prefix_len}
use Rattle.std.proofs.lemmas.Bool.{cases_lt}
use Rattle.graph_model.specs.declared.graph.Graph.{Graph}
use Rattle.plan_model.specs.Alignments.{lines}
use Rattle.plan_model.specs.Flows.{IsPoint, IsBalanced}
use Rattle.plan_model.specs.Rules.{number, Parts, IsFirstNot}
use Rattle.plan_model.specs.Certified.{Holds, parts, positions}
use Rattle.plan_model.specs.Places.{IsArcAt, IsFirstBad, IsPlaceBy, IsPlace, NoIsOne, same_line}
use Rattle.plan_model.specs.declared.rule.Rule.{Rule}
use Rattle.plan_model.specs.declared.rule.Rule.TheVariants.{At, Input, Alignment, Latency, Lines, Total, Path, Longest, Arcs, Need, Bound, Least, Waves, Homes, Channels, Peak}
use Rattle.plan_model.proofs.UniqueLaws.{live_nodes_are_unique}

-- ---- rules
abbrev pub rules : List Rule
rules = At ∷ Input ∷ Alignment ∷ Latency ∷ Lines ∷ Total ∷ Path ∷ Longest ∷ Arcs ∷ Need ∷ Bound ∷ Least ∷ Waves ∷ Homes ∷ Channels ∷ Peak ∷ []

abbrev IsAtNumber : Rule → Type 0
IsAtNumber r = (number r < length rules) × (get_or rules (number r) At ≡ r)

pub at_number : (r : Rule) → IsAtNumber r
at_number At = (omega arith, refl)
at_number Input = (omega arith, refl)
at_number Alignment = (omega arith, refl)
at_number Latency = (omega arith, refl)
at_number Lines = (omega arith, refl)
at_number Total = (omega arith, refl)
at_number Path = (omega arith, refl)
at_number Longest = (omega arith, refl)
at_number Arcs = (omega arith, refl)
at_number Need = (omega arith, refl)
at_number Bound = (omega arith, refl)
at_number Least = (omega arith, refl)
at_number Waves = (omega arith, refl)
at_number Homes = (omega arith, refl)
at_number Channels = (omega arith, refl)
at_number Peak = (omega arith, refl)

-- rules with the same number are the same
same_rule : (r s : Rule) → number r ≡ number s → r ≡ s
same_rule r s e = sym (at_number r).1 ∙ ap (λ n. get_or rules n At) e ∙ (at_number s).1

pub first_is_one : (H : Rule → Type 0) (r s : Rule) → IsFirstNot H r → IsFirstNot H s → r ≡ s
first_is_one H r s a b =
    elim (cases_lt (number r) (number s)) [
      | inl less ↦ absurd (a.fails (b.before r less))
      | inr le ↦
          elim (cases_lt (number s) (number r)) [
            | inl more ↦ absurd (b.fails (a.before s more))
            | inr ge ↦ same_rule r s (omega arith)
          ]
    ]

-- ---- places
abbrev pub IsOne : (ℕ → Type 0) → Type 0
IsOne P = (i j : ℕ) → P i → P j → i ≡ j

pub one_first_bad : (P : ℕ → Type 0) → IsOne (IsFirstBad P)
one_first_bad P i j a b =
    elim (cases_lt i j) [
      | inl less ↦ absurd (a.1 (b.0 i less))
      | inr le ↦
          elim (cases_lt j i) [
            | inl more ↦ absurd (b.1 (a.0 j more))
            | inr ge ↦ omega arith
          ]
    ]

-- where each of the three places that a version has of its own is one, all are
pub place_is_one : (g : Graph) (parts : Parts) (lines arcs need : ℕ → Type 0) → IsOne lines → IsOne arcs → IsOne need
    → (rule : Rule) → IsOne (λ place. IsPlaceBy g parts (lines place) (arcs place) (need place) rule place)
place_is_one g parts lines arcs need l a n At i j x y =
    x.2 ∙ ap (common_prefix_len (λ u v. u == v) (map (λ p. p.uid.0) parts.at)) (live_nodes_are_unique g x.0 y.0 x.1 y.1) ∙ sym y.2
place_is_one g parts lines arcs need l a n Input i j x y = x ∙ sym y
place_is_one g parts lines arcs need l a n Alignment i j x y = one_first_bad _ i j x y
place_is_one g parts lines arcs need l a n Latency i j x y = x ∙ sym y
place_is_one g parts lines arcs need l a n Lines i j x y = l i j x y
place_is_one g parts lines arcs need l a n Total i j x y = x ∙ sym y
place_is_one g parts lines arcs need l a n Path i j x y = one_first_bad _ i j x y
place_is_one g parts lines arcs need l a n Longest i j x y = x ∙ sym y
place_is_one g parts lines arcs need l a n Arcs i j x y = a i j x y
place_is_one g parts lines arcs need l a n Need i j x y = n i j x y
place_is_one g parts lines arcs need l a n Bound i j x y = x ∙ sym y
place_is_one g parts lines arcs need l a n Least i j x y = x ∙ sym y
place_is_one g parts lines arcs need l a n Waves i j x y = one_first_bad _ i j x y
place_is_one g parts lines arcs need l a n Homes i j x y = x ∙ sym y
place_is_one g parts lines arcs need l a n Channels i j x y = one_first_bad _ i j x y
place_is_one g parts lines arcs need l a n Peak i j x y = x ∙ sym y

pub no_is_one : NoIsOne
no_is_one g plan r s i j a b =
    let same : r ≡ s = first_is_one (Holds g plan) r s a.first b.first in
    let here : IsPlace g plan s i = subst (λ t. IsPlace g plan t i) same a.at in (
      same,
      place_is_one g (parts g plan) right_lines right_arcs right_need (λ k m x y. x ∙ sym y) (one_first_bad (IsArcAt g plan.latency plan.arcs))
          (one_first_bad (λ v. IsPoint g v → IsBalanced g plan.arcs v)) s i j here b.at,
    )
  where
    right_lines : ℕ → Type 0
    right_lines place = place ≡ common_prefix_len same_line plan.lines (lines g (positions plan))

    right_arcs : ℕ → Type 0
    right_arcs place = IsFirstBad (IsArcAt g plan.latency plan.arcs) place

    right_need : ℕ → Type 0
    right_need place = IsFirstBad (λ v. IsPoint g v → IsBalanced g plan.arcs v) place

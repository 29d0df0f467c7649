-- What the examples of certified and of refused plans share: the rules before one, and the first bad place.
use Rattle.std.proofs.Common.{ℕ, zero, suc, ◌<◌, take, sym, ◌∙◌, subst, arith, ⊎_elim}
use Rattle.std.specs.List.{AllByRecursion}
use Rattle.std.proofs.lemmas.Bool.{cases_eq}
use Rattle.std.proofs.lemmas.List.{get_or-take, length-take}
use Rattle.std.proofs.lemmas.List.Elements.{All-from_recursion}
use Rattle.graph_model.specs.declared.graph.Graph.{Graph}
use Rattle.plan_model.specs.Rules.{number}
use Rattle.plan_model.specs.Certified.{Holds}
use Rattle.plan_model.specs.Places.{IsFirstBad}
use Rattle.plan_model.specs.declared.plan.Plan.{Plan}
use Rattle.plan_model.specs.declared.rule.Rule.{Rule}
use Rattle.plan_model.specs.declared.rule.Rule.TheVariants.{At}
use Rattle.plan_model.proofs.RefusalLaws.{rules, at_number}

-- the proofs of the rules before one, in their order
pub earlier_by : (H : Rule → Type 0) (rule : Rule) → AllByRecursion H (take (number rule) rules) → (r : Rule) → number r < number rule → H r
earlier_by H rule h r l =
    let within = (at_number r).0 in
    subst H (get_or-take (number rule) rules (number r) At l ∙ (at_number r).1)
    (All-from_recursion H (take (number rule) rules) h (number r) At (omega (arith, length-take (number rule) rules, (at_number rule).0)))

pub earlier : (g : Graph) (plan : Plan) (rule : Rule) → AllByRecursion (Holds g plan) (take (number rule) rules) → (r : Rule) → number r < number rule → Holds g plan r
earlier g plan rule h = earlier_by (Holds g plan) rule h

abbrev pub AllBelow : (ℕ → Type 0) → ℕ → Type 0
AllBelow P zero = Unit {0}
AllBelow P (suc n) = AllBelow P n × P n

pub below : (P : ℕ → Type 0) (n : ℕ) → AllBelow P n → (k : ℕ) → k < n → P k
below P zero h k l = absurd (omega arith)
below P (suc n) h k l = ⊎_elim (λ e. subst P (sym e) h.1) (λ ne. below P n h.0 k (omega arith)) (cases_eq k n)

pub first_bad : (P : ℕ → Type 0) (n : ℕ) → AllBelow P n → (P n → ⊥) → IsFirstBad P n
first_bad P n h bad = (below P n h, bad)

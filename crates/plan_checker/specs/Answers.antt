-- What a function that judges one rule answers.
use Rattle.std.specs.Prelude.{ℕ, ◌<◌, Option, MatchOption}
use Rattle.graph_model.specs.declared.graph.Graph.{Graph}
use Rattle.plan_model.specs.Certified.{Holds}
use Rattle.plan_model.specs.Rules.{number}
use Rattle.plan_model.specs.declared.plan.Plan.{Plan}
use Rattle.plan_model.specs.declared.rule.Rule.{Rule}

-- none where the rule holds, and else the place where it fails
abbrev pub Judges : Option ℕ → Type 0 → (ℕ → Type 0) → Type 0
Judges answer rule place = MatchOption answer rule (λ n. (rule → ⊥) × place n)

-- the rules before one hold
abbrev pub HoldBefore : Graph → Plan → Rule → Type 0
HoldBefore g plan rule = (r : Rule) → number r < number rule → Holds g plan r

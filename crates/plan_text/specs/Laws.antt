-- What the definitions imply.
use Rattle.std.specs.Prelude.{◌≡◌, ℕ, List, Result, Ok, IfOk}
use Rattle.graph_model.specs.Refusals.{Gives}
use Rattle.graph_model.specs.declared.refused.Refused.{Refused}
use Rattle.plan_model.specs.declared.plan.Plan.{Plan}
use Rattle.plan_text.specs.Order.{order, IsFirstBad}
use Rattle.plan_text.specs.Reading.{IfFault}
use Rattle.plan_text.specs.declared.fault.PlanFault.{PlanFault}
use Rattle.plan_text.specs.Texts.{text_of, IsInRange}

-- a text has one plan
abbrev pub TextHasOnePlan : Type 0
TextHasOnePlan = (a b : Plan) → IsInRange a → IsInRange b → text_of a ≡ text_of b → a ≡ b

-- bytes have one first bad line at most
abbrev pub FirstBadIsOne : Type 0
FirstBadIsOne = (text : List ℕ) (m n : ℕ) → IsFirstBad order text m → IsFirstBad order text n → m ≡ n

-- the text of a plan has no bad line
abbrev pub TextHasNoBad : Type 0
TextHasNoBad = (p : Plan) (n : ℕ) → IsInRange p → ¬ (IsFirstBad order (text_of p) n)

-- what reading answers of the text of a plan, by its clauses: that plan, or that there is no memory
abbrev pub ReadingIsExact : Type 0
ReadingIsExact = (p : Plan) (answer : Result Plan (Refused PlanFault)) → IsInRange p →
    IfOk answer (λ q. text_of p ≡ text_of q) → IfOk answer IsInRange → IfFault answer (λ fault. IsFirstBad order (text_of p) fault.line) →
    Gives (Ok p) answer

-- The rules in their order.
use Rattle.std.proofs.Common.{ℕ, ◌<◌, ◌≤◌, arith}
use Rattle.plan_model.specs.Rules.{number}
use Rattle.plan_model.specs.declared.rule.Rule.{Rule}
use Rattle.plan_model.proofs.RefusalLaws.{at_number}

-- there are sixteen
pub every_rule : (H : Rule → Type 0) (k : ℕ) → 16 ≤ k → ((r : Rule) → number r < k → H r) → (r : Rule) → H r
every_rule H k le before r = let l = (at_number r).0 in before r (omega arith)

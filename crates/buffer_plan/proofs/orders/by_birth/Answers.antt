use Rattle.std.proofs.Common.{rules}
use Rattle.std.proofs.lemmas.List.Sorted.{IsNonDecreasingBy-from_sort_by_key}
use Rattle.plan_model.specs.declared.buffers.Life.{Life}
use Rattle.buffer_plan.proofs.orders.by_birth.Goals as goal

pub returns-clause-births : goal.returns-clause-births
returns-clause-births c = IsNonDecreasingBy-from_sort_by_key (λ (x : Life). x.born) _ c.in_ok-sort_by_key.ensures.sorted (λ a r q k. search rules)

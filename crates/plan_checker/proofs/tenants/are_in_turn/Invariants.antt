use Rattle.std.proofs.Common.{ℕ, ◌+◌, ◌<◌, get_or}
use Rattle.plan_checker.specs.Tenants.{ComesNext}
use Rattle.plan_checker.specs.declared.tenants.Tenant.{Tenant}
use Rattle.plan_checker.proofs.tenants.are_in_turn.Given as goal

abbrev pub invariant-loop-k : goal.invariant-loop-k
invariant-loop-k l = (j : ℕ) (d : Tenant) → j + 1 < l.k → ComesNext (get_or l.tenants j d) (get_or l.tenants (j + 1) d)

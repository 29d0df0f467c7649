use Rattle.std.proofs.Common.{ℕ, ◌+◌, ◌<◌, List, length, map, get_or, subst, arith, IsPermutation}
use Rattle.std.specs.List.{range_with_len}
use Rattle.std.proofs.lemmas.List.Sorted.{All-permutation, Contains-permutation}
use Rattle.plan_checker.specs.Tenants.{ComesNext, tenant_of}
use Rattle.plan_checker.specs.declared.tenants.Tenant.{Tenant}
use Rattle.plan_checker.proofs.TenantFacts.{all_last, has_tenant, may_share, apart_by_tenants}
use Rattle.plan_checker.proofs.tenants.all_fit.Goals as goal

pub returns : goal.returns
returns c e j k lt l =
    let lives = c.args.lives.now in
    let homes = c.args.homes.now in
    let ts = c.sort_unstable_by_key.new.self.items in
    let moved : IsPermutation (map (tenant_of lives homes) (range_with_len 0 (length homes))) ts =
    subst (λ (xs : List Tenant). IsPermutation xs ts) c.in_ok-tenants.ensures c.sort_unstable_by_key.ensures.permutation in
    let turns = subst (λ (xs : List Tenant). (k : ℕ) (d : Tenant) → k + 1 < length xs → ComesNext (get_or xs k d) (get_or xs (k + 1) d)) c.deref.ensures.value (c.are_in_turn.ensures e) in
    let lasting = All-permutation (λ (t : Tenant). t.life.born < t.life.dies) (map (tenant_of lives homes) (range_with_len 0 (length homes))) ts moved
    (all_last lives homes c.requires.each c.requires.lasting) in
    let first = Contains-permutation (map (tenant_of lives homes) (range_with_len 0 (length homes))) ts (tenant_of lives homes j) moved (has_tenant lives homes j (omega arith)) in
    let second = Contains-permutation (map (tenant_of lives homes) (range_with_len 0 (length homes))) ts (tenant_of lives homes k) moved (has_tenant lives homes k l) in
    apart_by_tenants lives homes j k (may_share ts turns lasting (tenant_of lives homes j) (tenant_of lives homes k) first second (λ same. omega arith))

use Rattle.std.proofs.Common.{sym, subst, arith}
use Rattle.plan_checker.specs.Networks.{AreSmall}
use Rattle.plan_checker.proofs.network.network.Goals as goal

pub returns-clause-leasts : goal.returns-clause-leasts
returns-clause-leasts c =
    c.in_ok-add_to_root.ensures.leasts (c.in_ok-add_from_root.ensures.leasts (c.in_ok-add_along.ensures.leasts
    (subst AreSmall (sym c.new-arcs.ensures.items) (λ k d lt. absurd (omega arith)))))

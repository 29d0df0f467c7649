use Rattle.std.proofs.Common.{subst, IsPermutation}
use Rattle.plan_checker.proofs.LiveFacts.{sorted_live}
use Rattle.plan_checker.proofs.live.live_nodes.Goals as goal

pub returns-clause-live : goal.returns-clause-live
returns-clause-live c =
    sorted_live c.args.g.now c.in_ok-live.ensures.sound _ (subst (λ xs. IsPermutation xs c.sort_unstable.new.self.items) c.in_ok-live.ensures.live c.sort_unstable.ensures.permutation) c.sort_unstable.ensures.sorted

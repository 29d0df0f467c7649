use Rattle.std.proofs.Common.{ℕ, ◌<◌, get_or}
use Rattle.plan_checker.specs.Waves.{IsNew}
use Rattle.plan_checker.proofs.waves.are_new.Given as goal

abbrev pub invariant-loop-node : goal.invariant-loop-node
invariant-loop-node l = (k : ℕ) → k < l.node-index → IsNew l.live l.before (get_or l.nodes k (record { 0 = 0 })).0

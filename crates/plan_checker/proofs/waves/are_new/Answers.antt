use Rattle.std.proofs.Common.{get_or, subst, arith, below_more}
use Rattle.std.proofs.lemmas.List.{get_or_default}
use Rattle.graph_model.specs.declared.graph.Uid.{Uid}
use Rattle.plan_checker.specs.Waves.{IsNew}
use Rattle.plan_checker.proofs.waves.are_new.Goals as goal

abbrev nobody : Uid
nobody = record { 0 = 0 }

pub loop-node-preserved : goal.loop-node-preserved
loop-node-preserved c =
    below_more (λ k. IsNew c.args.live.now c.args.before.now (get_or c.args.nodes.now k nobody).0) c.loop-node.node-index c.loop-node.invariant c.if-not-is_new.ensures

pub returns : goal.returns
returns c k d lt =
    subst (λ (u : Uid). IsNew c.args.live.now c.args.before.now u.0) (get_or_default c.args.nodes.now k nobody d lt) (c.loop-node.invariant k (omega arith))

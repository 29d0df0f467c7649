use Rattle.std.proofs.Common.{get_or, subst, arith, below_more, Contains}
use Rattle.std.specs.List.{flat_map}
use Rattle.std.proofs.lemmas.List.{get_or_default}
use Rattle.plan_model.specs.Schedules.{names}
use Rattle.plan_checker.proofs.waves.all_stand.Goals as goal

pub loop-uid-preserved : goal.loop-uid-preserved
loop-uid-preserved c =
    below_more (λ k. Contains (flat_map names c.args.waves.now) (get_or c.args.live.now k 0)) c.loop-uid.uid-index c.loop-uid.invariant c.if-not-stands.ensures

pub returns : goal.returns
returns c k d lt =
    subst (Contains (flat_map names c.args.waves.now)) (get_or_default c.args.live.now k 0 d lt) (c.loop-uid.invariant k (omega arith))

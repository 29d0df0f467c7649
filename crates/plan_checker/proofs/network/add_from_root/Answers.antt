use Rattle.std.proofs.Common.{◌≤◌, ◌^◌, ◌∙◌, map, refl, sym, ap, subst, get_or, pos, arith}
use Rattle.std.specs.Prelude.{unsigned_abs}
use Rattle.std.proofs.lemmas.List.Elements.{All-push}
use Rattle.plan_model.specs.Flows.{from_root}
use Rattle.plan_checker.specs.Networks.{AreSmall, difference}
use Rattle.plan_checker.specs.declared.network.Constraint.{Constraint}
use Rattle.plan_checker.proofs.NetworkFacts.{one_more}
use Rattle.plan_checker.proofs.network.add_from_root.Goals as goal

pub loop-uid-preserved : goal.loop-uid-preserved
loop-uid-preserved c =
    let arc : Constraint = record { tail = 0; head = get_or c.args.live.now c.loop-uid.uid-index 0; least = pos 0 } in
    record {
      arcs = ap (map difference) c.in_ok-push.ensures.items
          ∙ one_more from_root difference c.loop-uid.arcs.items (map difference c.args.arcs.now.items) c.args.live.now c.loop-uid.uid-index 0 arc
          c.loop-uid-test.true c.loop-uid.invariant.arcs refl;
      small = λ s.
          subst AreSmall (sym c.in_ok-push.ensures.items)
          (All-push (λ (a : Constraint). unsigned_abs a.least ≤ 2 ^ 32) c.loop-uid.arcs.items arc (c.loop-uid.invariant.small s) (omega arith));
    }

use Rattle.std.proofs.Common.{◌≤◌, ◌^◌, ◌∙◌, sym, ap, subst, arith, pos, ◌-ℤ◌, to_z, of_z, w64, FitsSigned}
use Rattle.std.specs.Prelude.{unsigned_abs}
use Rattle.std.proofs.lemmas.Int.{ints, fits_signed_from_abs, to_z-of_z, to_z_pos}
use Rattle.std.proofs.lemmas.List.Elements.{All-push}
use Rattle.plan_checker.specs.Networks.{AreSmall}
use Rattle.plan_checker.specs.declared.network.Constraint.{Constraint}
use Rattle.plan_checker.proofs.network.add_to_root.Goals as goal
use Rattle.plan_checker.proofs.network.add_to_root.Goals.{then-is_live+in_ok-push, else-is_live}

pub returns-clause-leasts : goal.returns-clause-leasts
returns-clause-leasts c s =
    let so_far : AreSmall c.if-is_live.arcs.items = elim c.if-is_live.branch [
      | then-is_live+in_ok-push w ↦
          subst AreSmall (sym (ap (λ v. v.items) w.arcs-is ∙ w.in_ok-push.ensures.items))
          (All-push (λ (a : Constraint). unsigned_abs a.least ≤ 2 ^ 32) c.args.arcs.now.items _ s (omega arith))
      | else-is_live w ↦ subst AreSmall (sym (ap (λ v. v.items) w.arcs-is)) s
    ] in
    let below : FitsSigned w64 (pos 0 -ℤ pos c.args.latency) = fits_signed_from_abs w64 (pos 0 -ℤ pos c.args.latency) (omega (arith, ints, c.requires)) in
    let back : unsigned_abs (to_z w64 (of_z w64 (pos 0 -ℤ to_z w64 c.args.latency))) ≤ 2 ^ 32
    = rw (to_z_pos w64 c.args.latency (omega (arith, c.requires)), to_z-of_z w64 _ below) (omega (arith, ints, c.requires)) in
    subst AreSmall (sym c.in_ok-push-2.ensures.items) (All-push (λ (a : Constraint). unsigned_abs a.least ≤ 2 ^ 32) c.if-is_live.arcs.items _ so_far back)

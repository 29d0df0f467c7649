use Rattle.std.proofs.Common.{◌==◌, ◌&&◌, ◌≤◌, ◌∙◌, sym, ap, arith, w64, FitsSigned}
use Rattle.std.specs.Prelude.{unsigned_abs}
use Rattle.std.specs.Option.{option_map}
use Rattle.std.proofs.lemmas.Int.{to_z-of_z, fits_signed_from_abs}
use Rattle.std.proofs.lemmas.List.Elements.{recursion_from_All}
use Rattle.graph_model.proofs.NodeFacts.{find-all}
use Rattle.plan_model.specs.Networks.{least_or_zero}
use Rattle.plan_checker.specs.Networks.{difference}
use Rattle.plan_checker.specs.declared.network.Constraint.{Constraint}
use Rattle.plan_checker.proofs.FlowFacts.{arc_found}
use Rattle.plan_checker.proofs.flow.least.Goals as goal

pub returns-in-Some-clause-value : goal.returns-in-Some-clause-value
returns-in-Some-clause-value c g latency is =
    let net = c.args.constraints.now in
    let small = (find-all (λ (a : Constraint). (a.tail == c.args.tail) && (a.head == c.args.head)) (λ (a : Constraint). unsigned_abs a.least ≤ 4294967296) net c.in-Some.arc.now
    (recursion_from_All (λ (a : Constraint). unsigned_abs a.least ≤ 4294967296) net c.requires) (sym c.in-Some.ensures)).0 in
    let fits : FitsSigned w64 c.in-Some.arc.now.least = fits_signed_from_abs w64 c.in-Some.arc.now.least (omega (arith, small)) in
    to_z-of_z w64 c.in-Some.arc.now.least fits ∙ sym (ap least_or_zero (arc_found g latency net is c.args.tail c.args.head ∙ ap (option_map difference) (sym c.in-Some.ensures)))

pub returns-in-Some-clause-size : goal.returns-in-Some-clause-size
returns-in-Some-clause-size c =
    let net = c.args.constraints.now in
    let small = (find-all (λ (a : Constraint). (a.tail == c.args.tail) && (a.head == c.args.head)) (λ (a : Constraint). unsigned_abs a.least ≤ 4294967296) net c.in-Some.arc.now
    (recursion_from_All (λ (a : Constraint). unsigned_abs a.least ≤ 4294967296) net c.requires) (sym c.in-Some.ensures)).0 in
    let fits : FitsSigned w64 c.in-Some.arc.now.least = fits_signed_from_abs w64 c.in-Some.arc.now.least (omega (arith, small)) in
    omega (arith, ap unsigned_abs (to_z-of_z w64 c.in-Some.arc.now.least fits), small)

pub returns-in-None-clause-value : goal.returns-in-None-clause-value
returns-in-None-clause-value c g latency is =
    sym (ap least_or_zero (arc_found g latency c.args.constraints.now is c.args.tail c.args.head ∙ ap (option_map difference) (sym c.in-None.ensures)))

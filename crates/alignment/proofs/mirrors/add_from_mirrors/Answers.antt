use Rattle.std.proofs.Common.{◌≡◌, ◌-◌, ◌++◌, ◌∷◌, [], ◌∙◌, ℤ, ap, map, arith, pos, neg_ℤ, ◌-ℤ◌, to_z, of_z, w64, FitsSigned}
use Rattle.std.specs.List.{range_with_len}
use Rattle.std.proofs.lemmas.Int.{ints, fits_signed_from_abs, to_z-of_z, to_z_pos}
use Rattle.alignment.specs.Mirrors.{arc_from_mirror}
use Rattle.alignment.proofs.MirrorFacts.{from_mirrors-more}
use Rattle.alignment.proofs.mirrors.add_from_mirrors.Goals as goal

pub loop-point-preserved : goal.loop-point-preserved
loop-point-preserved c =
    let latency = c.args.latency in
    let below : FitsSigned w64 (pos 0 -ℤ pos latency) = fits_signed_from_abs w64 (pos 0 -ℤ pos latency) (omega (arith, ints, c.requires.early)) in
    let negated : (pos 0 -ℤ pos latency) ≡ neg_ℤ (pos latency) = omega (arith, ints) in
    let least : to_z w64 (of_z w64 (pos 0 -ℤ to_z w64 latency)) ≡ neg_ℤ (pos latency) = rw (to_z_pos w64 latency (omega (arith, c.requires.early)), to_z-of_z w64 _ below) negated in
    let one = λ (n : ℤ). c.loop-point.arcs.items ++ record { tail = c.loop-point.point; head = 0; least = n } ∷ [] in
    c.in_ok-push.ensures.items ∙ ap one least
    ∙ from_mirrors-more c.args.arcs.now.items c.loop-point.arcs.items latency c.args.points c.loop-point.point c.loop-point.auto.point c.loop-point.invariant

pub returns : goal.returns
returns c =
    let all : c.loop-point.point - c.args.points ≡ c.args.values = omega (arith, c.loop-point-test.false, c.loop-point.auto.point-end) in
    c.loop-point.invariant ∙ ap (λ n. c.args.arcs.now.items ++ map (arc_from_mirror c.args.latency) (range_with_len c.args.points n)) all

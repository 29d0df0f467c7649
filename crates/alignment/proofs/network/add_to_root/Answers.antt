use Rattle.std.proofs.Common.{◌≡◌, ◌∙◌, ap, sym, subst, arith, pos, neg_ℤ, ◌-ℤ◌, to_z, of_z, w64, FitsSigned}
use Rattle.std.proofs.lemmas.Int.{ints, fits_signed_from_abs, to_z-of_z, to_z_pos}
use Rattle.graph_model.specs.Paths.{latency_of_graph}
use Rattle.std.specs.List.{Contains}
use Rattle.alignment.proofs.LinkFacts.{found_there, found_as, output_point, input_made, input_not_made, to_root_made}
use Rattle.alignment.proofs.network.add_to_root.Goals as goal
use Rattle.alignment.proofs.network.add_to_root.Goals.{in-Some+in_ok-push, in_default}

pub unwrap-requires : goal.unwrap-requires
unwrap-requires c = found_there _ _ c.point_of-2.result c.point_of-2.ensures (subst (Contains c.args.points.now) (sym (c.uid-2.ensures ∙ c.output.ensures.name)) (output_point c.args.graph.now c.args.points.now c.requires.sound c.requires.points))

pub returns : goal.returns
returns c =
    let g = c.args.graph.now in
    let points = c.args.points.now in
    let found = found_as _ _ c.point_of-2.result c.unwrap.result c.point_of-2.ensures c.unwrap.ensures in
    let below : FitsSigned w64 (pos 0 -ℤ pos c.latency.result) = fits_signed_from_abs w64 (pos 0 -ℤ pos c.latency.result) (omega (arith, ints, c.latency.ensures.small)) in
    let negated : (pos 0 -ℤ pos c.latency.result) ≡ neg_ℤ (pos c.latency.result) = omega (arith, ints) in
    let least : to_z w64 (of_z w64 (pos 0 -ℤ to_z w64 c.latency.result)) ≡ neg_ℤ (pos (latency_of_graph g))
    = rw (to_z_pos w64 c.latency.result (omega (arith, c.latency.ensures.small)), to_z-of_z w64 _ below) (negated ∙ ap (λ n. neg_ℤ (pos n)) c.latency.ensures.latency) in
    elim c.match-point_of.branch [
      | in-Some+in_ok-push w ↦ to_root_made g points c.requires.sound c.requires.points c.args.arcs.now.items c.match-point_of.arcs.items c.push-2.new.self.items c.unwrap.result _
          (ap (λ v. v.items) w.arcs-is ∙ w.in_ok-push.ensures.items ∙ input_made g points c.requires.sound c.requires.points c.args.arcs.now.items w.in-Some.tail w.in-Some.ensures.0 (w.in-Some.ensures.1 ∙ (c.uid.ensures ∙ c.input.ensures.name)))
          found.0 (found.1 ∙ (c.uid-2.ensures ∙ c.output.ensures.name)) least c.in_ok-push-2.ensures.items
      | in_default w ↦ to_root_made g points c.requires.sound c.requires.points c.args.arcs.now.items c.match-point_of.arcs.items c.push-2.new.self.items c.unwrap.result _
          (ap (λ v. v.items) w.arcs-is ∙ input_not_made g points c.requires.sound c.requires.points c.args.arcs.now.items (λ has. w.in_default.ensures (subst (Contains points) (sym (c.uid.ensures ∙ c.input.ensures.name)) has)))
          found.0 (found.1 ∙ (c.uid-2.ensures ∙ c.output.ensures.name)) least c.in_ok-push-2.ensures.items
    ]

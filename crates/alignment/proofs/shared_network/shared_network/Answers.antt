use Rattle.std.proofs.Common.{◌≡◌, ◌∙◌, ◌+◌, ap, sym, subst, map, length, arith}
use Rattle.std.specs.List.{range_with_len}
use Rattle.std.proofs.lemmas.List.{length-map}
use Rattle.plan_model.specs.Lives.{values}
use Rattle.alignment.specs.Links.{need_at}
use Rattle.alignment.specs.Mirrors.{mirror_link}
use Rattle.alignment.specs.SharedNetworks.{shared_points, AreSharedArcs}
use Rattle.alignment.proofs.MirrorFacts.{needs_are}
use Rattle.alignment.proofs.SharedArcFacts.{names_count}
use Rattle.alignment.proofs.ValueListFacts.{few_values, as_many}
use Rattle.alignment.proofs.shared_network.shared_network.Goals as goal

pub needs-requires : goal.needs-requires
needs-requires c =
    let g = c.args.graph.now in
    omega (arith, ap length c.requires.mirrors, length-map (values g) (mirror_link g c.args.points.now), few_values g c.requires.sound)

pub overflow_cast-count : goal.overflow_cast-count
overflow_cast-count c =
    let few = few_values c.args.graph.now c.requires.sound in
    let many = as_many c.args.graph.now c.args.values.now c.requires.values in
    omega (arith, c.requires.points.few)

pub returns : goal.returns
returns c =
    let g = c.args.graph.now in
    let points = c.args.points.now in
    let count : length points + length c.args.values.now ≡ length (shared_points g points)
    = ap (λ n. length points + n) (as_many g c.args.values.now c.requires.values) ∙ sym (names_count g points c.requires.sound c.requires.points) in
    record {
      numbered = count;
      arcs = subst (AreSharedArcs g points) (sym (c.in_ok-from_slice.ensures ∙ c.deref.ensures.value)) c.in_ok-arcs.ensures;
      need = c.in_ok-from_slice-2.ensures ∙ c.deref-2.ensures.value ∙ c.in_ok-needs.ensures
          ∙ (λ i. map (need_at (c.requires.mirrors i)) (range_with_len 0 (count i))) ∙ needs_are g points c.requires.sound c.requires.points;
    }

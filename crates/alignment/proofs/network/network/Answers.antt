use Rattle.std.proofs.Common.{◌∙◌, ap, sym, subst, map, length, arith, refl}
use Rattle.std.specs.List.{range_with_len}
use Rattle.alignment.specs.Networks.{AreNetworkArcs}
use Rattle.alignment.specs.Links.{need_at}
use Rattle.alignment.proofs.NetworkFacts.{needs_are}
use Rattle.alignment.proofs.PlaceListFacts.{links_few}
use Rattle.alignment.proofs.network.network.Goals as goal

pub needs-requires : goal.needs-requires
needs-requires c =
    omega (arith, links_few c.args.graph.now c.args.points.now 0 c.args.graph.now.connections, ap length c.requires.links, c.requires.sound.fits.1)

pub returns : goal.returns
returns c = record {
  numbered = refl;
  arcs = subst (AreNetworkArcs c.args.graph.now c.args.points.now) (sym (c.in_ok-from_slice.ensures ∙ c.deref.ensures.value)) c.in_ok-arcs.ensures;
  need = c.in_ok-from_slice-2.ensures ∙ c.deref-2.ensures.value ∙ c.in_ok-needs.ensures
      ∙ ap (λ ls. map (need_at ls) (range_with_len 0 (length c.args.points.now))) c.requires.links ∙ needs_are c.args.graph.now c.args.points.now c.requires.sound c.requires.points;
}

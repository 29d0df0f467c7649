use Rattle.std.proofs.Common.{◌≡◌, ◌∙◌, ◌^◌, List, ap, sym, subst, map, drop, arith, sum_by, pos, ◌-ℤ◌, Fits, FitsSigned, w64, rules}
use Rattle.std.specs.Int.{w128}
use Rattle.std.specs.List.{All}
use lib.IntN.{nat_abs}
use Rattle.std.proofs.lemmas.Int.{to_z-of_z, fits_signed_from_abs}
use Rattle.shortest_paths.specs.Walks.{IsWithin}
use Rattle.min_cost_flow.specs.Laws.{weighted}
use Rattle.min_cost_flow.specs.declared.network.Arc.{Arc}
use Rattle.plan_model.specs.Alignments.{total}
use Rattle.alignment.specs.Carried.{carried_by}
use Rattle.alignment.specs.Links.{links_of}
use Rattle.alignment.specs.Networks.{ArePoints, IsNetworkOf}
use Rattle.alignment.specs.Places.{ArePositions, delay_of, line_of, places_of}
use Rattle.alignment.specs.declared.links.Link.{Link}
use Rattle.alignment.proofs.NetworkFacts.{network_is_one}
use Rattle.alignment.proofs.SolutionFacts.{solution}
use Rattle.alignment.proofs.AlignFacts.{positions, timely, few_links, leasts, bound_is, is_aligned_as}
use Rattle.plan_model.proofs.BestLaws.{no_earlier}
use Rattle.alignment.proofs.align.Goals as goal

pub solve-requires : goal.solve-requires
solve-requires c =
    network_is_one c.args.graph.now c.deref-2.result.now c.in_ok-network.network c.in_ok-points.ensures.sound
    (subst (ArePoints c.args.graph.now) (sym c.deref-2.ensures.value) c.in_ok-points.ensures.points) c.in_ok-network.ensures

pub places-requires-clause-positions : goal.places-requires-clause-positions
places-requires-clause-positions c =
    let e = c.in_ok-solved.ensures in
    let s = solution IsNetworkOf c.args.graph.now c.in_ok-points.points.items c.deref-2.result.now c.in_ok-network.network c.in_ok-solved.solved
    c.in_ok-points.ensures.points c.in_ok-points.ensures.sound c.deref-2.ensures.value c.in_ok-network.ensures e.sizes e.meets e.tight e.root e.least in
    subst ArePositions (sym c.as_slice-potentials.ensures) (positions c.args.graph.now c.in_ok-points.points.items c.in_ok-network.network c.in_ok-solved.solved s)

pub lines-requires-clause-positions : goal.lines-requires-clause-positions
lines-requires-clause-positions c =
    let e = c.in_ok-solved.ensures in
    let s = solution IsNetworkOf c.args.graph.now c.in_ok-points.points.items c.deref-2.result.now c.in_ok-network.network c.in_ok-solved.solved
    c.in_ok-points.ensures.points c.in_ok-points.ensures.sound c.deref-2.ensures.value c.in_ok-network.ensures e.sizes e.meets e.tight e.root e.least in
    subst ArePositions (sym c.as_slice-potentials.ensures) (positions c.args.graph.now c.in_ok-points.points.items c.in_ok-network.network c.in_ok-solved.solved s)

pub lines-requires-clause-timely : goal.lines-requires-clause-timely
lines-requires-clause-timely c =
    let e = c.in_ok-solved.ensures in
    let s = solution IsNetworkOf c.args.graph.now c.in_ok-points.points.items c.deref-2.result.now c.in_ok-network.network c.in_ok-solved.solved
    c.in_ok-points.ensures.points c.in_ok-points.ensures.sound c.deref-2.ensures.value c.in_ok-network.ensures e.sizes e.meets e.tight e.root e.least in
    let links : c.deref-5.result.now ≡ links_of c.args.graph.now c.in_ok-points.points.items
    = c.deref-5.ensures.value ∙ c.in_ok-links.ensures ∙ ap (links_of c.args.graph.now) c.deref.ensures.value in
    rw (links, c.as_slice-potentials.ensures) (timely c.args.graph.now c.in_ok-points.points.items c.in_ok-network.network c.in_ok-solved.solved s)

pub total-requires-clause-positions : goal.total-requires-clause-positions
total-requires-clause-positions c =
    let e = c.in_ok-solved.ensures in
    let s = solution IsNetworkOf c.args.graph.now c.in_ok-points.points.items c.deref-2.result.now c.in_ok-network.network c.in_ok-solved.solved
    c.in_ok-points.ensures.points c.in_ok-points.ensures.sound c.deref-2.ensures.value c.in_ok-network.ensures e.sizes e.meets e.tight e.root e.least in
    subst ArePositions (sym c.as_slice-potentials.ensures) (positions c.args.graph.now c.in_ok-points.points.items c.in_ok-network.network c.in_ok-solved.solved s)

pub total-requires-clause-timely : goal.total-requires-clause-timely
total-requires-clause-timely c =
    let e = c.in_ok-solved.ensures in
    let s = solution IsNetworkOf c.args.graph.now c.in_ok-points.points.items c.deref-2.result.now c.in_ok-network.network c.in_ok-solved.solved
    c.in_ok-points.ensures.points c.in_ok-points.ensures.sound c.deref-2.ensures.value c.in_ok-network.ensures e.sizes e.meets e.tight e.root e.least in
    let links : c.deref-6.result.now ≡ links_of c.args.graph.now c.in_ok-points.points.items
    = c.deref-6.ensures.value ∙ c.in_ok-links.ensures ∙ ap (links_of c.args.graph.now) c.deref.ensures.value in
    rw (links, c.as_slice-potentials.ensures) (timely c.args.graph.now c.in_ok-points.points.items c.in_ok-network.network c.in_ok-solved.solved s)

pub total-requires-clause-few : goal.total-requires-clause-few
total-requires-clause-few c =
    let e = c.in_ok-solved.ensures in
    let s = solution IsNetworkOf c.args.graph.now c.in_ok-points.points.items c.deref-2.result.now c.in_ok-network.network c.in_ok-solved.solved
    c.in_ok-points.ensures.points c.in_ok-points.ensures.sound c.deref-2.ensures.value c.in_ok-network.ensures e.sizes e.meets e.tight e.root e.least in
    let links : c.deref-6.result.now ≡ links_of c.args.graph.now c.in_ok-points.points.items
    = c.deref-6.ensures.value ∙ c.in_ok-links.ensures ∙ ap (links_of c.args.graph.now) c.deref.ensures.value in
    rw links (few_links c.args.graph.now c.in_ok-points.points.items c.in_ok-network.network c.in_ok-solved.solved s)

pub bound-requires-clause-leasts : goal.bound-requires-clause-leasts
bound-requires-clause-leasts c =
    let e = c.in_ok-solved.ensures in
    let s = solution IsNetworkOf c.args.graph.now c.in_ok-points.points.items c.deref-2.result.now c.in_ok-network.network c.in_ok-solved.solved
    c.in_ok-points.ensures.points c.in_ok-points.ensures.sound c.deref-2.ensures.value c.in_ok-network.ensures e.sizes e.meets e.tight e.root e.least in
    subst (λ (arcs : List Arc). All (λ a. IsWithin (2 ^ 30) a.least) arcs) (sym c.as_slice-arcs.ensures) (leasts c.args.graph.now c.in_ok-points.points.items c.in_ok-network.network c.in_ok-solved.solved s)

pub bound-requires-clause-links : goal.bound-requires-clause-links
bound-requires-clause-links c =
    let e = c.in_ok-solved.ensures in
    let s = solution IsNetworkOf c.args.graph.now c.in_ok-points.points.items c.deref-2.result.now c.in_ok-network.network c.in_ok-solved.solved
    c.in_ok-points.ensures.points c.in_ok-points.ensures.sound c.deref-2.ensures.value c.in_ok-network.ensures e.sizes e.meets e.tight e.root e.least in
    let links : c.deref-8.result.now ≡ links_of c.args.graph.now c.in_ok-points.points.items
    = c.deref-8.ensures.value ∙ c.in_ok-links.ensures ∙ ap (links_of c.args.graph.now) c.deref.ensures.value in
    rw links (few_links c.args.graph.now c.in_ok-points.points.items c.in_ok-network.network c.in_ok-solved.solved s)

pub overflow_cast-result : goal.overflow_cast-result
overflow_cast-result c =
    let e = c.in_ok-solved.ensures in
    let s = solution IsNetworkOf c.args.graph.now c.in_ok-points.points.items c.deref-2.result.now c.in_ok-network.network c.in_ok-solved.solved
    c.in_ok-points.ensures.points c.in_ok-points.ensures.sound c.deref-2.ensures.value c.in_ok-network.ensures e.sizes e.meets e.tight e.root e.least in
    let links : c.deref-6.result.now ≡ links_of c.args.graph.now c.in_ok-points.points.items
    = c.deref-6.ensures.value ∙ c.in_ok-links.ensures ∙ ap (links_of c.args.graph.now) c.deref.ensures.value in
    let sum : c.total.result ≡ sum_by (delay_of c.in_ok-solved.solved.potential) (links_of c.args.graph.now c.in_ok-points.points.items)
    = c.total.ensures ∙ (λ i. sum_by (delay_of (c.as_slice-potentials.ensures i)) (links i)) in
    let others : c.deref-8.result.now ≡ links_of c.args.graph.now c.in_ok-points.points.items
    = c.deref-8.ensures.value ∙ c.in_ok-links.ensures ∙ ap (links_of c.args.graph.now) c.deref.ensures.value in
    let bound : c.bound.result ≡ pos c.total.result
    = c.bound.ensures ∙ (λ i. weighted (λ a. a.least) (c.as_slice-arcs.ensures i) (c.as_slice-flow.ensures i) -ℤ pos (sum_by (λ (l : Link). l.latency) (others i)))
    ∙ bound_is c.args.graph.now c.in_ok-points.points.items c.in_ok-network.network c.in_ok-solved.solved s c.total.result sum in
    let fits : FitsSigned w128 c.bound.result = rw bound (fits_signed_from_abs w128 (pos c.total.result) (omega (arith, c.total.type_inv))) in
    let small : Fits w64 c.total.result = search rules in
    rw (to_z-of_z w128 c.bound.result fits, bound) (tt, small)

pub returns-clause-aligned : goal.returns-clause-aligned
returns-clause-aligned c =
    let e = c.in_ok-solved.ensures in
    let s = solution IsNetworkOf c.args.graph.now c.in_ok-points.points.items c.deref-2.result.now c.in_ok-network.network c.in_ok-solved.solved
    c.in_ok-points.ensures.points c.in_ok-points.ensures.sound c.deref-2.ensures.value c.in_ok-network.ensures e.sizes e.meets e.tight e.root e.least in
    let links : c.deref-6.result.now ≡ links_of c.args.graph.now c.in_ok-points.points.items
    = c.deref-6.ensures.value ∙ c.in_ok-links.ensures ∙ ap (links_of c.args.graph.now) c.deref.ensures.value in
    let sum : c.total.result ≡ sum_by (delay_of c.in_ok-solved.solved.potential) (links_of c.args.graph.now c.in_ok-points.points.items)
    = c.total.ensures ∙ (λ i. sum_by (delay_of (c.as_slice-potentials.ensures i)) (links i)) in
    let others : c.deref-8.result.now ≡ links_of c.args.graph.now c.in_ok-points.points.items
    = c.deref-8.ensures.value ∙ c.in_ok-links.ensures ∙ ap (links_of c.args.graph.now) c.deref.ensures.value in
    let listed : c.deref-5.result.now ≡ links_of c.args.graph.now c.in_ok-points.points.items
    = c.deref-5.ensures.value ∙ c.in_ok-links.ensures ∙ ap (links_of c.args.graph.now) c.deref.ensures.value in
    let bound : c.bound.result ≡ pos c.total.result
    = c.bound.ensures ∙ (λ i. weighted (λ a. a.least) (c.as_slice-arcs.ensures i) (c.as_slice-flow.ensures i) -ℤ pos (sum_by (λ (l : Link). l.latency) (others i)))
    ∙ bound_is c.args.graph.now c.in_ok-points.points.items c.in_ok-network.network c.in_ok-solved.solved s c.total.result sum in
    let fits : FitsSigned w128 c.bound.result = rw bound (fits_signed_from_abs w128 (pos c.total.result) (omega (arith, c.total.type_inv))) in
    let whole = ap nat_abs (to_z-of_z w128 c.bound.result fits ∙ bound) in
    is_aligned_as c.args.graph.now c.in_ok-points.points.items c.in_ok-network.network c.in_ok-solved.solved s c.in_ok-places.field-0 c.in_ok-lines.field-0 c.total.result c.in_ok-carried.field-0 _
    (c.in_ok-places.ensures ∙ (λ i. places_of (drop 1 (c.deref-4.ensures.value i)) (drop 1 (c.as_slice-potentials.ensures i))))
    (c.in_ok-lines.ensures ∙ (λ i. map (line_of (c.as_slice-potentials.ensures i)) (listed i))) sum
    (c.in_ok-carried.ensures ∙ (λ i. carried_by (c.deref-7.ensures.value i) (c.as_slice-arcs.ensures i) (c.as_slice-flow.ensures i))) whole

pub returns-clause-least_latency : goal.returns-clause-least_latency
returns-clause-least_latency c = λ q al. no_earlier (total c.args.graph.now) c.args.graph.now _ q c.in_ok-points.ensures.sound (returns-clause-aligned c).best al

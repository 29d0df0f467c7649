use Rattle.std.proofs.Common.{◌≡◌, ◌∙◌, ◌^◌, List, length, ap, sym, subst, map, take, drop, arith, sum_by, pos, ◌-ℤ◌, Fits, FitsSigned, w64, rules}
use Rattle.std.specs.Int.{w128}
use Rattle.std.specs.List.{All}
use lib.IntN.{nat_abs}
use Rattle.std.proofs.lemmas.Int.{to_z-of_z, fits_signed_from_abs}
use Rattle.shortest_paths.specs.Walks.{IsWithin}
use Rattle.min_cost_flow.specs.Laws.{weighted}
use Rattle.min_cost_flow.specs.declared.network.Arc.{Arc}
use Rattle.plan_model.specs.Lives.{values}
use Rattle.plan_model.specs.SharedFlows.{at_node}
use Rattle.plan_model.specs.SharedLines.{shared_total}
use Rattle.plan_model.proofs.BestLaws.{no_earlier}
use Rattle.alignment.specs.Mirrors.{mirror_link, line_of_link}
use Rattle.alignment.specs.Networks.{ArePoints}
use Rattle.alignment.specs.Numbered.{entries_by}
use Rattle.alignment.specs.Places.{ArePositions, delay_of, places_of}
use Rattle.alignment.specs.SharedNetworks.{shared_points, point_entry, IsSharedNetworkOf}
use Rattle.alignment.specs.Values.{port}
use Rattle.alignment.specs.declared.links.Link.{Link}
use Rattle.alignment.proofs.SharedAlignFacts.{positions, node_positions, timely, few_links, links_named, leasts, bound_of, is_aligned_shared_as}
use Rattle.alignment.proofs.SharedNetworkFacts.{shared_network_is_one}
use Rattle.alignment.proofs.SolutionFacts.{solution}
use Rattle.alignment.proofs.shared.align_shared.Goals as goal

pub solve-requires : goal.solve-requires
solve-requires c =
    shared_network_is_one c.args.graph.now c.deref-6.result.now c.in_ok-network.network c.in_ok-points.ensures.sound
    (subst (ArePoints c.args.graph.now) (sym c.deref-6.ensures.value) c.in_ok-points.ensures.points) c.in_ok-network.ensures

pub places-requires-clause-positions : goal.places-requires-clause-positions
places-requires-clause-positions c =
    let e = c.in_ok-solved.ensures in
    let s = solution IsSharedNetworkOf c.args.graph.now c.in_ok-points.points.items c.deref-6.result.now c.in_ok-network.network c.in_ok-solved.solved
    c.in_ok-points.ensures.points c.in_ok-points.ensures.sound c.deref-6.ensures.value c.in_ok-network.ensures e.sizes e.meets e.tight e.root e.least in
    let count : c.len.result ≡ length c.in_ok-points.points.items = omega (arith, c.len.ensures, c.in_ok-points.points.ok.0) in
    let nodes : take c.len.result c.as_slice-potentials.result.now ≡ take (length c.in_ok-points.points.items) c.in_ok-solved.solved.potential = λ i. take (count i) (c.as_slice-potentials.ensures i) in
    subst ArePositions (sym nodes) (node_positions c.args.graph.now c.in_ok-points.points.items c.in_ok-network.network c.in_ok-solved.solved s)

pub lines-requires-clause-positions : goal.lines-requires-clause-positions
lines-requires-clause-positions c =
    let e = c.in_ok-solved.ensures in
    let s = solution IsSharedNetworkOf c.args.graph.now c.in_ok-points.points.items c.deref-6.result.now c.in_ok-network.network c.in_ok-solved.solved
    c.in_ok-points.ensures.points c.in_ok-points.ensures.sound c.deref-6.ensures.value c.in_ok-network.ensures e.sizes e.meets e.tight e.root e.least in
    subst ArePositions (sym c.as_slice-potentials.ensures) (positions c.args.graph.now c.in_ok-points.points.items c.in_ok-network.network c.in_ok-solved.solved s)

pub lines-requires-clause-timely : goal.lines-requires-clause-timely
lines-requires-clause-timely c =
    let e = c.in_ok-solved.ensures in
    let s = solution IsSharedNetworkOf c.args.graph.now c.in_ok-points.points.items c.deref-6.result.now c.in_ok-network.network c.in_ok-solved.solved
    c.in_ok-points.ensures.points c.in_ok-points.ensures.sound c.deref-6.ensures.value c.in_ok-network.ensures e.sizes e.meets e.tight e.root e.least in
    let links : c.deref-14.result.now ≡ map (mirror_link c.args.graph.now c.in_ok-points.points.items) (values c.args.graph.now)
    = c.deref-14.ensures.value ∙ c.in_ok-links.ensures ∙ ap (λ ps. map (mirror_link c.args.graph.now ps) (values c.args.graph.now)) c.deref-4.ensures.value in
    rw (links, c.as_slice-potentials.ensures) (timely c.args.graph.now c.in_ok-points.points.items c.in_ok-network.network c.in_ok-solved.solved s)

pub lines-requires-clause-named : goal.lines-requires-clause-named
lines-requires-clause-named c =
    let e = c.in_ok-solved.ensures in
    let s = solution IsSharedNetworkOf c.args.graph.now c.in_ok-points.points.items c.deref-6.result.now c.in_ok-network.network c.in_ok-solved.solved
    c.in_ok-points.ensures.points c.in_ok-points.ensures.sound c.deref-6.ensures.value c.in_ok-network.ensures e.sizes e.meets e.tight e.root e.least in
    let links : c.deref-14.result.now ≡ map (mirror_link c.args.graph.now c.in_ok-points.points.items) (values c.args.graph.now)
    = c.deref-14.ensures.value ∙ c.in_ok-links.ensures ∙ ap (λ ps. map (mirror_link c.args.graph.now ps) (values c.args.graph.now)) c.deref-4.ensures.value in
    let listed : map port c.in_ok-values.values.items ≡ values c.args.graph.now = c.in_ok-values.ensures in
    rw (links, c.deref-13.ensures.value) (links_named c.args.graph.now c.in_ok-points.points.items c.in_ok-network.network c.in_ok-solved.solved s c.in_ok-values.values.items listed)

pub total-requires-clause-few : goal.total-requires-clause-few
total-requires-clause-few c =
    let e = c.in_ok-solved.ensures in
    let s = solution IsSharedNetworkOf c.args.graph.now c.in_ok-points.points.items c.deref-6.result.now c.in_ok-network.network c.in_ok-solved.solved
    c.in_ok-points.ensures.points c.in_ok-points.ensures.sound c.deref-6.ensures.value c.in_ok-network.ensures e.sizes e.meets e.tight e.root e.least in
    let links : c.deref-15.result.now ≡ map (mirror_link c.args.graph.now c.in_ok-points.points.items) (values c.args.graph.now)
    = c.deref-15.ensures.value ∙ c.in_ok-links.ensures ∙ ap (λ ps. map (mirror_link c.args.graph.now ps) (values c.args.graph.now)) c.deref-4.ensures.value in
    rw links (few_links c.args.graph.now c.in_ok-points.points.items c.in_ok-network.network c.in_ok-solved.solved s)

pub total-requires-clause-positions : goal.total-requires-clause-positions
total-requires-clause-positions c =
    let e = c.in_ok-solved.ensures in
    let s = solution IsSharedNetworkOf c.args.graph.now c.in_ok-points.points.items c.deref-6.result.now c.in_ok-network.network c.in_ok-solved.solved
    c.in_ok-points.ensures.points c.in_ok-points.ensures.sound c.deref-6.ensures.value c.in_ok-network.ensures e.sizes e.meets e.tight e.root e.least in
    subst ArePositions (sym c.as_slice-potentials.ensures) (positions c.args.graph.now c.in_ok-points.points.items c.in_ok-network.network c.in_ok-solved.solved s)

pub total-requires-clause-timely : goal.total-requires-clause-timely
total-requires-clause-timely c =
    let e = c.in_ok-solved.ensures in
    let s = solution IsSharedNetworkOf c.args.graph.now c.in_ok-points.points.items c.deref-6.result.now c.in_ok-network.network c.in_ok-solved.solved
    c.in_ok-points.ensures.points c.in_ok-points.ensures.sound c.deref-6.ensures.value c.in_ok-network.ensures e.sizes e.meets e.tight e.root e.least in
    let links : c.deref-15.result.now ≡ map (mirror_link c.args.graph.now c.in_ok-points.points.items) (values c.args.graph.now)
    = c.deref-15.ensures.value ∙ c.in_ok-links.ensures ∙ ap (λ ps. map (mirror_link c.args.graph.now ps) (values c.args.graph.now)) c.deref-4.ensures.value in
    rw (links, c.as_slice-potentials.ensures) (timely c.args.graph.now c.in_ok-points.points.items c.in_ok-network.network c.in_ok-solved.solved s)

pub bound-requires-clause-leasts : goal.bound-requires-clause-leasts
bound-requires-clause-leasts c =
    let e = c.in_ok-solved.ensures in
    let s = solution IsSharedNetworkOf c.args.graph.now c.in_ok-points.points.items c.deref-6.result.now c.in_ok-network.network c.in_ok-solved.solved
    c.in_ok-points.ensures.points c.in_ok-points.ensures.sound c.deref-6.ensures.value c.in_ok-network.ensures e.sizes e.meets e.tight e.root e.least in
    subst (λ (arcs : List Arc). All (λ a. IsWithin (2 ^ 30) a.least) arcs) (sym c.as_slice-arcs.ensures) (leasts c.args.graph.now c.in_ok-points.points.items c.in_ok-network.network c.in_ok-solved.solved s)

pub bound-requires-clause-links : goal.bound-requires-clause-links
bound-requires-clause-links c =
    let e = c.in_ok-solved.ensures in
    let s = solution IsSharedNetworkOf c.args.graph.now c.in_ok-points.points.items c.deref-6.result.now c.in_ok-network.network c.in_ok-solved.solved
    c.in_ok-points.ensures.points c.in_ok-points.ensures.sound c.deref-6.ensures.value c.in_ok-network.ensures e.sizes e.meets e.tight e.root e.least in
    let links : c.deref-17.result.now ≡ map (mirror_link c.args.graph.now c.in_ok-points.points.items) (values c.args.graph.now)
    = c.deref-17.ensures.value ∙ c.in_ok-links.ensures ∙ ap (λ ps. map (mirror_link c.args.graph.now ps) (values c.args.graph.now)) c.deref-4.ensures.value in
    rw links (few_links c.args.graph.now c.in_ok-points.points.items c.in_ok-network.network c.in_ok-solved.solved s)

pub overflow_cast-result : goal.overflow_cast-result
overflow_cast-result c =
    let e = c.in_ok-solved.ensures in
    let s = solution IsSharedNetworkOf c.args.graph.now c.in_ok-points.points.items c.deref-6.result.now c.in_ok-network.network c.in_ok-solved.solved
    c.in_ok-points.ensures.points c.in_ok-points.ensures.sound c.deref-6.ensures.value c.in_ok-network.ensures e.sizes e.meets e.tight e.root e.least in
    let links : c.deref-15.result.now ≡ map (mirror_link c.args.graph.now c.in_ok-points.points.items) (values c.args.graph.now)
    = c.deref-15.ensures.value ∙ c.in_ok-links.ensures ∙ ap (λ ps. map (mirror_link c.args.graph.now ps) (values c.args.graph.now)) c.deref-4.ensures.value in
    let sum : c.total.result ≡ sum_by (delay_of c.in_ok-solved.solved.potential) (map (mirror_link c.args.graph.now c.in_ok-points.points.items) (values c.args.graph.now))
    = c.total.ensures ∙ (λ i. sum_by (delay_of (c.as_slice-potentials.ensures i)) (links i)) in
    let others : c.deref-17.result.now ≡ map (mirror_link c.args.graph.now c.in_ok-points.points.items) (values c.args.graph.now)
    = c.deref-17.ensures.value ∙ c.in_ok-links.ensures ∙ ap (λ ps. map (mirror_link c.args.graph.now ps) (values c.args.graph.now)) c.deref-4.ensures.value in
    let bound : c.bound.result ≡ pos c.total.result
    = c.bound.ensures ∙ (λ i. weighted (λ a. a.least) (c.as_slice-arcs.ensures i) (c.as_slice-flow.ensures i) -ℤ pos (sum_by (λ (l : Link). l.latency) (others i)))
    ∙ bound_of c.args.graph.now c.in_ok-points.points.items c.in_ok-network.network c.in_ok-solved.solved s c.total.result sum in
    let fits : FitsSigned w128 c.bound.result = rw bound (fits_signed_from_abs w128 (pos c.total.result) (omega (arith, c.total.type_inv))) in
    let small : Fits w64 c.total.result = search rules in
    rw (to_z-of_z w128 c.bound.result fits, bound) (tt, small)

pub returns-clause-aligned : goal.returns-clause-aligned
returns-clause-aligned c =
    let e = c.in_ok-solved.ensures in
    let s = solution IsSharedNetworkOf c.args.graph.now c.in_ok-points.points.items c.deref-6.result.now c.in_ok-network.network c.in_ok-solved.solved
    c.in_ok-points.ensures.points c.in_ok-points.ensures.sound c.deref-6.ensures.value c.in_ok-network.ensures e.sizes e.meets e.tight e.root e.least in
    let links : c.deref-15.result.now ≡ map (mirror_link c.args.graph.now c.in_ok-points.points.items) (values c.args.graph.now)
    = c.deref-15.ensures.value ∙ c.in_ok-links.ensures ∙ ap (λ ps. map (mirror_link c.args.graph.now ps) (values c.args.graph.now)) c.deref-4.ensures.value in
    let sum : c.total.result ≡ sum_by (delay_of c.in_ok-solved.solved.potential) (map (mirror_link c.args.graph.now c.in_ok-points.points.items) (values c.args.graph.now))
    = c.total.ensures ∙ (λ i. sum_by (delay_of (c.as_slice-potentials.ensures i)) (links i)) in
    let others : c.deref-17.result.now ≡ map (mirror_link c.args.graph.now c.in_ok-points.points.items) (values c.args.graph.now)
    = c.deref-17.ensures.value ∙ c.in_ok-links.ensures ∙ ap (λ ps. map (mirror_link c.args.graph.now ps) (values c.args.graph.now)) c.deref-4.ensures.value in
    let held : c.deref-14.result.now ≡ map (mirror_link c.args.graph.now c.in_ok-points.points.items) (values c.args.graph.now)
    = c.deref-14.ensures.value ∙ c.in_ok-links.ensures ∙ ap (λ ps. map (mirror_link c.args.graph.now ps) (values c.args.graph.now)) c.deref-4.ensures.value in
    let listed : map port c.in_ok-values.values.items ≡ values c.args.graph.now = c.in_ok-values.ensures in
    let bound : c.bound.result ≡ pos c.total.result
    = c.bound.ensures ∙ (λ i. weighted (λ a. a.least) (c.as_slice-arcs.ensures i) (c.as_slice-flow.ensures i) -ℤ pos (sum_by (λ (l : Link). l.latency) (others i)))
    ∙ bound_of c.args.graph.now c.in_ok-points.points.items c.in_ok-network.network c.in_ok-solved.solved s c.total.result sum in
    let fits : FitsSigned w128 c.bound.result = rw bound (fits_signed_from_abs w128 (pos c.total.result) (omega (arith, c.total.type_inv))) in
    let count : c.len.result ≡ length c.in_ok-points.points.items = omega (arith, c.len.ensures, c.in_ok-points.points.ok.0) in
    let nodes : take c.len.result c.as_slice-potentials.result.now ≡ take (length c.in_ok-points.points.items) c.in_ok-solved.solved.potential = λ i. take (count i) (c.as_slice-potentials.ensures i) in
    let names : c.deref-16.result.now ≡ shared_points c.args.graph.now c.in_ok-points.points.items
    = c.deref-16.ensures.value ∙ c.in_ok-names.ensures ∙ ap (shared_points c.args.graph.now) c.deref-10.ensures.value in
    let whole = ap nat_abs (to_z-of_z w128 c.bound.result fits ∙ bound) in
    is_aligned_shared_as c.args.graph.now c.in_ok-points.points.items c.in_ok-network.network c.in_ok-solved.solved s c.in_ok-values.values.items listed c.in_ok-places.field-0 c.in_ok-lines.field-0 c.total.result c.in_ok-carried.field-0 _
    (c.in_ok-places.ensures ∙ (λ i. places_of (drop 1 (c.deref-12.ensures.value i)) (drop 1 (nodes i))))
    (c.in_ok-lines.ensures ∙ (λ i. map (line_of_link (c.deref-13.ensures.value i) (c.as_slice-potentials.ensures i)) (held i))) sum
    (c.in_ok-carried.ensures ∙ (λ i. entries_by point_entry (at_node 0) (names i) (c.as_slice-arcs.ensures i) (c.as_slice-flow.ensures i)))
    whole

pub returns-clause-least_latency : goal.returns-clause-least_latency
returns-clause-least_latency c = λ q al. no_earlier (shared_total c.args.graph.now) c.args.graph.now _ q c.in_ok-points.ensures.sound (returns-clause-aligned c).best al

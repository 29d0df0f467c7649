use Rattle.std.proofs.Common.{◌^◌, neg_ℤ, [], length, map, refl, sym, ◌∙◌, ap, subst, arith}
use Rattle.std.specs.List.{All}
use Rattle.std.proofs.lemmas.Int.{ints}
use Rattle.shortest_paths.specs.Walks.{number_of, IsWithin}
use Rattle.min_cost_flow.specs.Flow.{IsTight}
use Rattle.min_cost_flow.specs.Search.{potential_of, IsReady}
use Rattle.min_cost_flow.proofs.SolveFacts.{number_of-map_neg, IsTight-same, all_small}
use Rattle.min_cost_flow.proofs.TightFacts.{small_from_tight, least_of_all}
use Rattle.shortest_paths.proofs.WholeLaws.{never_stopped}
use Rattle.min_cost_flow.proofs.solver.solve.Goals as goal

pub search_from-requires-clause-ready : goal.search_from-requires-clause-ready
search_from-requires-clause-ready c = subst (λ x. IsReady c.args.net.now x c.least_flow.new.walks) (sym c.deref.ensures.value) c.in_ok-flow.ensures.ready

pub potentials-requires : goal.potentials-requires
potentials-requires c =
    let net = c.args.net.now in
    let ready = c.in_ok-search_from.ensures.ready in
    let w = c.search_from.new.walks in
    let network = c.requires in
    let units = ap length c.deref.ensures.value ∙ c.in_ok-flow.ensures.units in
    let small = small_from_tight net.arcs c.deref.result.now w.residual.edges.items w.residual.steps.items ready.residual units net.points ready.zero_at w.search.numbers.items network.few_points network.ends network.leasts
    (ready.sized.number_each ∙ ready.points_each) ready.zero_in ready.is_zero ready.tight network.connected in
    subst (λ x. All (IsWithin (2 ^ 62)) x) (sym c.deref-2.ensures.value) (all_small w.search.numbers.items small)

pub returns-clause-tight : goal.returns-clause-tight
returns-clause-tight c =
    let ready = c.in_ok-search_from.ensures.ready in
    let numbers = c.search_from.new.walks.search.numbers.items in
    let is = c.in_ok-potential.ensures ∙ ap (map neg_ℤ) c.deref-2.ensures.value in
    let tight = subst (λ x. IsTight c.args.net.now.arcs x (potential_of numbers)) c.deref.ensures.value ready.tight in
    let listed = c.in_ok-flow-2.ensures ∙ c.deref-3.ensures.value in
    subst (λ x. IsTight c.args.net.now.arcs x (number_of c.in_ok-potential.potential)) (sym listed)
    (subst (λ x. IsTight c.args.net.now.arcs c.in_ok-flow.flow.items (number_of x)) (sym is)
    (IsTight-same c.args.net.now.arcs c.in_ok-flow.flow.items (potential_of numbers) (number_of (map neg_ℤ numbers)) (number_of-map_neg numbers) tight))

pub returns-clause-least : goal.returns-clause-least
returns-clause-least c q root tight v l =
    let net = c.args.net.now in
    let w = c.search_from.new.walks in
    let after = c.in_ok-search_from.ensures in
    let numbers = w.search.numbers.items in
    let is = c.in_ok-potential.ensures ∙ ap (map neg_ℤ) c.deref-2.ensures.value in
    let same = ap (λ x. number_of x v) is ∙ number_of-map_neg numbers v in
    let t = subst (λ x. IsTight net.arcs x (number_of q)) (c.in_ok-flow-2.ensures ∙ c.deref-3.ensures.value ∙ sym c.deref.ensures.value) tight in
    let linked = never_stopped net.points 0 w.search.last.items [] c.in_ok-search_from.field-0 refl after.stop in
    let below = least_of_all net c.deref.result.now 0 w.residual w.search (number_of q) after.search after.start root t linked v l in
    omega (arith, ints)

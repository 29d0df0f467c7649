use Rattle.std.proofs.Common.{ℕ, ◌<◌, ◌^◌, List, length, map, replicate, sym, ap, subst, ◌∙◌, arith}
use Rattle.std.specs.List.{All}
use Rattle.std.proofs.lemmas.List.{length-replicate}
use Rattle.shortest_paths.specs.declared.edges.Edge.{Edge}
use Rattle.shortest_paths.specs.Walks.{IsWithin, Joins, HasNoNegativeCycle, Reaches, IsLeastCost, number_of}
use Rattle.shortest_paths.specs.Leaving.{IsLeaving}
use Rattle.shortest_paths.proofs.CutLaws.{permits_from_least}
use Rattle.min_cost_flow.specs.Flow.{IsTight}
use Rattle.min_cost_flow.specs.Search.{potential_of}
use Rattle.min_cost_flow.specs.Residual.{forward, IsResidual}
use Rattle.min_cost_flow.proofs.SolveFacts.{forward_cycles, forward_reached, forward_joins, forward_costs, forward_length, first_tight, least_at_root}
use Rattle.min_cost_flow.proofs.TightFacts.{residual_joins}
use Rattle.min_cost_flow.proofs.search.first_walks.Goals as goal

pub new-requires-clause-few : goal.new-requires-clause-few
new-requires-clause-few c =
    let value = ap length c.deref.ensures.value in
    let each = c.in_ok-residual.ensures.edges_each in
    let arcs = ap length c.as_slice.ensures in
    let few = c.requires.few_arcs in
    omega (arith, value, each, arcs, few)

pub new-requires-clause-ends : goal.new-requires-clause-ends
new-requires-clause-ends c =
    let net = c.args.net.now in
    let r = c.in_ok-residual.residual in
    let residual = subst (λ x. IsResidual x r.edges.items r.steps.items) c.as_slice.ensures c.in_ok-residual.ensures in
    subst (λ x. All (Joins net.points) x) (sym c.deref.ensures.value)
    (residual_joins net.arcs (replicate (length net.arcs) 0) r.edges.items r.steps.items residual (length-replicate (length net.arcs) 0) net.points c.requires.ends)

pub distances-requires-clause-few : goal.distances-requires-clause-few
distances-requires-clause-few c =
    let is = c.deref-2.ensures.value ∙ c.in_ok-forward.ensures ∙ ap (map forward) c.as_slice-2.ensures in
    let len = ap length is ∙ forward_length c.args.net.now.arcs in
    let few = c.requires.few_arcs in
    omega (arith, len, few)

pub distances-requires-clause-ends : goal.distances-requires-clause-ends
distances-requires-clause-ends c =
    let is = c.deref-2.ensures.value ∙ c.in_ok-forward.ensures ∙ ap (map forward) c.as_slice-2.ensures in
    subst (λ x. All (Joins c.args.net.now.points) x) (sym is) (forward_joins c.args.net.now.points c.args.net.now.arcs c.requires.ends)

pub distances-requires-clause-costs : goal.distances-requires-clause-costs
distances-requires-clause-costs c =
    let is = c.deref-2.ensures.value ∙ c.in_ok-forward.ensures ∙ ap (map forward) c.as_slice-2.ensures in
    subst (λ (x : List Edge). All (λ e. IsWithin (2 ^ 46) e.cost) x) (sym is) (forward_costs c.args.net.now.arcs c.requires.leasts)

pub distances-requires-clause-cycles : goal.distances-requires-clause-cycles
distances-requires-clause-cycles c =
    let is = c.deref-2.ensures.value ∙ c.in_ok-forward.ensures ∙ ap (map forward) c.as_slice-2.ensures in
    subst HasNoNegativeCycle (sym is) (forward_cycles c.args.net.now.arcs c.requires.no_positive_cycle)

pub distances-requires-clause-reached : goal.distances-requires-clause-reached
distances-requires-clause-reached c v l =
    let is = c.deref-2.ensures.value ∙ c.in_ok-forward.ensures ∙ ap (map forward) c.as_slice-2.ensures in
    subst (λ x. Reaches x 0 v) (sym is) (forward_reached c.args.net.now.arcs 0 v (c.requires.connected 0 v c.requires.some_point l))

pub returns : goal.returns
returns c =
    let net = c.args.net.now in
    let r = c.in_ok-residual.residual in
    let is = c.deref-2.ensures.value ∙ c.in_ok-forward.ensures ∙ ap (map forward) c.as_slice-2.ensures in
    let first = c.in_ok-first.first.least in
    let costs = subst (λ x. (v : ℕ) → v < net.points → IsLeastCost x 0 v (number_of first v)) is c.in_ok-first.ensures.least in
    let permits = permits_from_least (map forward net.arcs) net.points 0 first (forward_joins net.points net.arcs c.requires.ends) costs in
    let listed = c.in_ok-search-2.ensures.items ∙ c.as_slice-3.ensures in
    let sized = c.in_ok-search.ensures.sizes in
    let points = c.in_ok-search.ensures.points in
    let zero = least_at_root (map forward net.arcs) 0 first (forward_cycles net.arcs c.requires.no_positive_cycle) (costs 0 c.requires.some_point) in
    record {
      residual = subst (λ x. IsResidual x r.edges.items r.steps.items) c.as_slice.ensures c.in_ok-residual.ensures;
      leaving = subst (λ x. IsLeaving net.points x c.in_ok-leaving.leaving) c.deref.ensures.value c.in_ok-leaving.ensures;
      sized = record { best_each = sized.best_each; number_each = ap length listed ∙ c.in_ok-first.ensures.points.0 ∙ sym points; last_each = sized.last_each };
      points_each = points;
      tight = subst (λ x. IsTight net.arcs (replicate (length net.arcs) 0) (potential_of x)) (sym listed) (first_tight net.arcs (length net.arcs) first permits);
      zero_at = 0;
      zero_in = c.requires.some_point;
      is_zero = ap (λ x. number_of x 0) listed ∙ zero;
    }

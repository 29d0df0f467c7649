use Rattle.std.proofs.Common.{ℕ, ◌<◌, ◌^◌, List, length, sym, ap, subst, ◌∙◌, arith}
use Rattle.std.specs.List.{All}
use Rattle.shortest_paths.specs.declared.edges.Edge.{Edge}
use Rattle.shortest_paths.specs.Walks.{IsWithin, Joins, Reaches, EndsLeast, ClimbsIn}
use Rattle.shortest_paths.specs.Leaving.{IsLeaving}
use Rattle.shortest_paths.specs.Usable.{usable}
use Rattle.shortest_paths.specs.Nearest.{Permits}
use Rattle.min_cost_flow.proofs.TightFacts.{residual_joins, residual_costs, residual_reached, permits_from_tight, tight_from_permits, small_from_tight, searched_of}
use Rattle.min_cost_flow.proofs.search.search_from.Goals as goal

pub run-requires-clause-few : goal.run-requires-clause-few
run-requires-clause-few c =
    let value = ap length c.deref.ensures.value in
    let each = c.requires.ready.residual.edges_each in
    let few = c.requires.network.few_arcs in
    omega (arith, value, each, few)

pub run-requires-clause-limits : goal.run-requires-clause-limits
run-requires-clause-limits c =
    let value = ap length c.deref.ensures.value in
    let each = c.requires.ready.residual.edges_each in
    let units = c.requires.units in
    omega (arith, value, each, units)

pub run-requires-clause-ends : goal.run-requires-clause-ends
run-requires-clause-ends c =
    let net = c.args.net.now in
    let r = c.args.walks.now.residual in
    let ready = c.requires.ready in
    subst (λ n. All (Joins n) c.deref.result.now) (sym ready.points_each)
    (subst (λ x. All (Joins net.points) x) (sym c.deref.ensures.value) (residual_joins net.arcs c.args.flow.now r.edges.items r.steps.items ready.residual c.requires.units net.points c.requires.network.ends))

pub run-requires-clause-costs : goal.run-requires-clause-costs
run-requires-clause-costs c =
    let net = c.args.net.now in
    let r = c.args.walks.now.residual in
    subst (λ (x : List Edge). All (λ e. IsWithin (2 ^ 46) e.cost) x) (sym c.deref.ensures.value) (residual_costs net.arcs c.args.flow.now r.edges.items r.steps.items c.requires.ready.residual c.requires.units c.requires.network.leasts)

pub run-requires-clause-leaving : goal.run-requires-clause-leaving
run-requires-clause-leaving c =
    let w = c.args.walks.now in
    subst (λ n. IsLeaving n c.deref.result.now w.leaving) (sym c.requires.ready.points_each) (subst (λ x. IsLeaving c.args.net.now.points x w.leaving) (sym c.deref.ensures.value) c.requires.ready.leaving)

pub run-requires-clause-small : goal.run-requires-clause-small
run-requires-clause-small c =
    let net = c.args.net.now in
    let w = c.args.walks.now in
    let ready = c.requires.ready in
    let network = c.requires.network in
    small_from_tight net.arcs c.args.flow.now w.residual.edges.items w.residual.steps.items ready.residual c.requires.units net.points ready.zero_at w.search.numbers.items network.few_points network.ends network.leasts
    (ready.sized.number_each ∙ ready.points_each) ready.zero_in ready.is_zero ready.tight network.connected

pub run-requires-clause-permits : goal.run-requires-clause-permits
run-requires-clause-permits c =
    let net = c.args.net.now in
    let w = c.args.walks.now in
    subst (λ x. Permits (usable x c.args.flow.now) w.search.numbers.items) (sym c.deref.ensures.value)
    (permits_from_tight net.arcs c.args.flow.now w.residual.edges.items w.residual.steps.items c.requires.ready.residual c.requires.units w.search.numbers.items c.requires.ready.tight)

pub run-requires-clause-reached : goal.run-requires-clause-reached
run-requires-clause-reached c v l =
    let net = c.args.net.now in
    let w = c.args.walks.now in
    let points = c.requires.ready.points_each in
    subst (λ x. Reaches (usable x c.args.flow.now) c.args.from v) (sym c.deref.ensures.value)
    (residual_reached net.arcs c.args.flow.now w.residual.edges.items w.residual.steps.items c.requires.ready.residual c.requires.units c.args.from v (c.requires.network.connected c.args.from v c.requires.from (omega (arith, l, points))))

pub returns-clause-ready : goal.returns-clause-ready
returns-clause-ready c =
    let net = c.args.net.now in
    let w = c.args.walks.now in
    let ready = c.requires.ready in
    let permits = subst (λ x. Permits (usable x c.args.flow.now) c.run.new.self.numbers.items) c.deref.ensures.value c.in_ok-stop.ensures.permits in
    record {
      residual = ready.residual;
      leaving = ready.leaving;
      sized = c.in_ok-stop.ensures.sizes.0;
      points_each = c.in_ok-stop.ensures.sizes.1 ∙ ready.points_each;
      tight = tight_from_permits net.arcs c.args.flow.now w.residual.edges.items w.residual.steps.items ready.residual c.requires.units c.run.new.self.numbers.items permits;
      zero_at = c.args.from;
      zero_in = c.requires.from;
      is_zero = c.in_ok-stop.ensures.start;
    }

pub returns-clause-search : goal.returns-clause-search
returns-clause-search c =
    let net = c.args.net.now in
    let flow = c.args.flow.now in
    let w = c.args.walks.now in
    let d = c.run.new.self in
    let ready = c.requires.ready in
    let value = c.deref.ensures.value in
    let after = c.in_ok-stop.ensures in
    let points = ready.points_each in
    searched_of net flow c.args.from w.residual d ready.residual c.requires.units (after.sizes.0.last_each ∙ after.sizes.1 ∙ points) after.none_at_from
    (subst (λ x. Permits (usable x flow) d.numbers.items) value after.permits)
    (λ v k named. subst (λ x. EndsLeast (usable x flow) d.numbers.items v k) value (after.last v k named))
    (λ v k named. subst (λ x. (n : ℕ) × (n < net.points) × ClimbsIn (usable x flow) d.last.items c.args.from n v) value (subst (λ p. (n : ℕ) × (n < p) × ClimbsIn (usable c.deref.result.now flow) d.last.items c.args.from n v) points (after.tree v k named)))

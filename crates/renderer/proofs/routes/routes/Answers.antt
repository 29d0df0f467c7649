use Rattle.std.proofs.Common.{◌≡◌, ◌+◌, ◌<◌, length, subst, get_or, sym, ◌∙◌, ap}
use Rattle.std.specs.List.{Contains}
use Rattle.std.proofs.lemmas.List.Elements.{Contains-get_or}
use Rattle.graph_model.specs.Paths.{is_live}
use Rattle.graph_model.specs.declared.graph.Graph.{Graph}
use Rattle.topology.proofs.LinkFacts.{any_connection}
use Rattle.renderer.specs.Positions.{position_at}
use Rattle.renderer.specs.Routes.{IsRoute}
use Rattle.renderer.proofs.RouteFacts.{keeps, AreRoutesUpTo, routes_more, routes_same}
use Rattle.renderer.proofs.routes.routes.Goals as goal
use Rattle.renderer.proofs.routes.routes.Goals.{then-leads_on+in_ok-push, else-leads_on}

pub route_of-requires-clause-live : goal.route_of-requires-clause-live
route_of-requires-clause-live c =
    let same : c.as_slice-connection-items.result.now ≡ c.args.checked.now.connections = c.as_slice-connection-items.ensures ∙ ap (λ (h : Graph). h.connections) c.graph.ensures.same in
    keeps c.args.checked.now (get_or c.as_slice-connection-items.result.now c.loop-connection.connection-index any_connection)
    (subst (λ cs. Contains cs (get_or c.as_slice-connection-items.result.now c.loop-connection.connection-index any_connection)) same
    (Contains-get_or c.as_slice-connection-items.result.now c.loop-connection.connection-index any_connection c.loop-connection-test.true))
    (sym c.leads_on.ensures ∙ c.if-leads_on.true)

pub loop-connection-preserved : goal.loop-connection-preserved
loop-connection-preserved c =
    let g = c.args.checked.now in
    let p = position_at c.args.checked.now c.args.positions.now in
    let same : c.as_slice-connection-items.result.now ≡ c.args.checked.now.connections = c.as_slice-connection-items.ensures ∙ ap (λ (h : Graph). h.connections) c.graph.ensures.same in
    let lt : c.loop-connection.connection-index < length c.args.checked.now.connections = subst (λ cs. c.loop-connection.connection-index < length cs) same c.loop-connection-test.true in
    let test : c.leads_on.result ≡ is_live c.args.checked.now (get_or c.args.checked.now.connections c.loop-connection.connection-index any_connection).dst.0 =
    c.leads_on.ensures ∙ ap (λ cs. is_live c.args.checked.now (get_or cs c.loop-connection.connection-index any_connection).dst.0) same in
    elim c.if-leads_on.branch [
      | then-leads_on+in_ok-push w ↦
          subst (λ v. AreRoutesUpTo (c.loop-connection.connection-index + 1) c.args.checked.now (position_at c.args.checked.now c.args.positions.now) v.items) (sym w.routes-is)
          (routes_more c.loop-connection.connection-index c.args.checked.now (position_at c.args.checked.now c.args.positions.now) any_connection lt
          c.loop-connection.routes.items w.push.new.self.items w.route_of.result c.loop-connection.invariant (sym test ∙ w.if-leads_on.true)
          (subst (λ cs. IsRoute c.args.checked.now (position_at c.args.checked.now c.args.positions.now) (get_or cs c.loop-connection.connection-index any_connection) w.route_of.result) same w.route_of.ensures)
          w.in_ok-push.ensures.items)
      | else-leads_on w ↦
          subst (λ v. AreRoutesUpTo (c.loop-connection.connection-index + 1) c.args.checked.now (position_at c.args.checked.now c.args.positions.now) v.items) (sym w.routes-is)
          (routes_same c.loop-connection.connection-index c.args.checked.now (position_at c.args.checked.now c.args.positions.now) any_connection lt
          c.loop-connection.routes.items c.loop-connection.invariant (sym test ∙ w.if-leads_on.false))
    ]

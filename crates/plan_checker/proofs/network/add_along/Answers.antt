use Rattle.std.proofs.Common.{◌≤◌, ◌^◌, ◌∙◌, map, sym, ap, subst}
use Rattle.std.specs.Prelude.{unsigned_abs}
use Rattle.std.proofs.lemmas.List.Elements.{All-push}
use Rattle.graph_model.specs.declared.graph.Connection.{Connection}
use Rattle.plan_model.specs.Flows.{along}
use Rattle.plan_checker.specs.Networks.{AreSmall, difference}
use Rattle.plan_checker.specs.declared.network.Constraint.{Constraint}
use Rattle.plan_checker.proofs.NetworkFacts.{one_more}
use Rattle.plan_checker.proofs.network.add_along.Goals as goal

abbrev any : Connection
any = record { src = record { 0 = 0 }; src_channel = 0; dst = record { 0 = 0 }; dst_channel = 0 }

pub loop-connection-preserved : goal.loop-connection-preserved
loop-connection-preserved c = record {
  arcs = ap (map difference) c.in_ok-push.ensures.items
      ∙ one_more (along c.args.g.now) difference c.loop-connection.arcs.items (map difference c.args.arcs.now.items) c.args.connections.now c.loop-connection.connection-index any c.along.result
      c.loop-connection-test.true c.loop-connection.invariant.arcs c.along.ensures.arc;
  small = λ s.
      subst AreSmall (sym c.in_ok-push.ensures.items)
      (All-push (λ (a : Constraint). unsigned_abs a.least ≤ 2 ^ 32) c.loop-connection.arcs.items c.along.result (c.loop-connection.invariant.small s) c.along.ensures.least);
}

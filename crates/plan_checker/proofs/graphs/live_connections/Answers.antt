use Rattle.std.proofs.Common.{◌≡◌, ◌<◌, [], ◌∷◌, ◌++◌, ◌∙◌, length, get_or, ap, sym, arith}
use Rattle.graph_model.specs.Paths.{is_live}
use Rattle.graph_model.specs.declared.graph.Connection.{Connection}
use Rattle.graph_model.specs.declared.graph.Graph.{Graph}
use Rattle.plan_checker.proofs.FilterFacts.{passes_too, is_left_out}
use Rattle.plan_checker.proofs.graphs.live_connections.Goals as goal
use Rattle.plan_checker.proofs.graphs.live_connections.Goals.{then-leads_to_live+in_ok-push, else-leads_to_live}

abbrev any : Connection
any = record { src = record { 0 = 0 }; src_channel = 0; dst = record { 0 = 0 }; dst_channel = 0 }

pub loop-k-preserved : goal.loop-k-preserved
loop-k-preserved c =
    let g = c.args.g.now in
    let k = c.loop-k.k in
    let all : c.as_slice-connections.result.now ≡ g.connections = c.as_slice-connections.ensures ∙ ap (λ (h : Graph). h.connections) c.graph.ensures.same in
    let lt : k < length g.connections = omega (arith, ap length all) in
    elim c.if-leads_to_live.branch [
      | then-leads_to_live+in_ok-push w ↦
          ap (λ v. v.items) w.live-is ∙ w.in_ok-push.ensures.items ∙ (λ i. c.loop-k.invariant i ++ get_or (all i) k any ∷ [])
          ∙ sym (passes_too (λ (d : Connection). is_live g d.dst.0) g.connections k any lt (sym (c.leads_to_live.ensures any) ∙ w.if-leads_to_live.true))
      | else-leads_to_live w ↦
          ap (λ v. v.items) w.live-is ∙ c.loop-k.invariant
          ∙ sym (is_left_out (λ (d : Connection). is_live g d.dst.0) g.connections k any lt (sym (c.leads_to_live.ensures any) ∙ w.if-leads_to_live.false))
    ]

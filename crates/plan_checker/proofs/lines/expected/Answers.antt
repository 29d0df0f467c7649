use Rattle.std.proofs.Common.{◌≡◌, ◌+◌, ◌<◌, List, ◌++◌, ◌∷◌, [], length, get_or, drop, ap, sym, ◌∙◌, arith}
use Rattle.graph_model.specs.Answers.{delay}
use Rattle.graph_model.specs.Paths.{is_live}
use Rattle.graph_model.specs.declared.graph.Connection.{Connection}
use Rattle.graph_model.specs.declared.graph.Graph.{Graph}
use Rattle.plan_model.specs.Alignments.{lines_from, position_in}
use Rattle.plan_model.specs.declared.alignment.LineAt.{LineAt}
use Rattle.plan_checker.proofs.LineFacts.{line_comes, no_line}
use Rattle.plan_checker.proofs.lines.expected.Goals as goal
use Rattle.plan_checker.proofs.lines.expected.Goals.{then-leads_to_live+in_ok-push, else-leads_to_live}

abbrev any : Connection
any = record { src = record { 0 = 0 }; src_channel = 0; dst = record { 0 = 0 }; dst_channel = 0 }

pub loop-k-preserved : goal.loop-k-preserved
loop-k-preserved c =
    let g = c.args.g.now in
    let p = position_in c.args.at.now in
    let k = c.loop-k.k in
    let rest = lines_from g p (k + 1) (drop (k + 1) g.connections) in
    let all : c.as_slice-connection-items.result.now ≡ g.connections =
    c.as_slice-connection-items.ensures ∙ ap (λ (h : Graph). h.connections) c.graph-graph.ensures.same in
    let lt : k < length g.connections = omega (arith, ap length all) in
    let is : c.leads_to_live.result ≡ is_live g (get_or g.connections k any).dst.0 = c.leads_to_live.ensures any in
    elim c.if-leads_to_live.branch [
      | then-leads_to_live+in_ok-push w ↦
          (let mine : w.delay.result ≡ delay g p (get_or g.connections k any) = w.delay.ensures ∙ (λ i. delay (c.graph-graph.ensures.same i) p (get_or (all i) k any)) in
          ap (λ (ls : List LineAt). ls ++ rest) (w.lines-is ∙ w.in_ok-push.ensures.ok ∙ ap (λ n. c.loop-k.lines ++ record { connection = k; delay = n } ∷ []) mine)
          ∙ line_comes g p k g.connections any lt c.loop-k.lines (sym is ∙ w.if-leads_to_live.true) ∙ c.loop-k.invariant)
      | else-leads_to_live w ↦
          ap (λ (ls : List LineAt). ls ++ rest) w.lines-is ∙ no_line g p k g.connections any lt c.loop-k.lines (sym is ∙ w.if-leads_to_live.false) ∙ c.loop-k.invariant
    ]

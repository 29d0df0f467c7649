use Rattle.std.proofs.Common.{[], ◌∷◌, length, sym, ap, subst, ◌∙◌, arith}
use Rattle.std.proofs.lemmas.List.{length-append}
use Rattle.min_cost_flow.specs.Admissible.{AreCurrent}
use Rattle.min_cost_flow.proofs.AdmissibleFacts.{current_push, leaves_newest}
use Rattle.min_cost_flow.proofs.admissible.Trail.new.Goals as goal

pub loop-point-preserved : goal.loop-point-preserved
loop-point-preserved c =
    let w = c.args.walks.now in
    let v = c.loop-point.point in
    let edges = w.residual.edges.items in
    let inv = c.loop-point.invariant in
    let items = c.in_ok-push.ensures.items in
    let longer = ap length items in
    let one = length-append c.loop-point.current.items (c.newest.result ∷ []) in
    let each = inv.each in
    record {
      each = omega (arith, longer, one, each);
      current = subst (AreCurrent edges) (sym items)
          (current_push edges c.loop-point.current.items v c.newest.result (sym each) inv.current (λ k is. leaves_newest c.args.net.now.points edges w.leaving v k c.requires.ready.2.leaving c.loop-point-test.true (sym c.newest.ensures ∙ is)));
    }

use Rattle.std.proofs.Common.{◌≡◌, ◌+◌, ◌++◌, length, set, replicate, drop, None, sym, ap, ◌∙◌, arith, add-one}
use Rattle.shortest_paths.proofs.FillFacts.{fill_next, fill_end, fill_same, none_there}
use Rattle.shortest_paths.proofs.heap.forget.Goals as goal
use Rattle.shortest_paths.proofs.heap.forget.Goals.{then-is_some, else-is_some}

pub loop-index-preserved : goal.loop-index-preserved
loop-index-preserved c =
    let i = c.loop-index.index in
    let t = c.loop-index-test.true in
    let len = c.loop-index.auto.best in
    let written : set c.loop-index.best i None ≡ replicate (i + 1) None ++ drop (i + 1) c.args.best.now =
    ap (λ x. set x i None) c.loop-index.invariant ∙ fill_next i c.args.best.now None (omega arith) ∙ ap (λ n. replicate n None ++ drop n c.args.best.now) (sym (add-one i)) in
    elim c.if-is_some.branch [
      | then-is_some w ↦ w.best-is ∙ written
      | else-is_some w ↦ w.best-is ∙ sym (fill_same c.loop-index.best i None None (omega arith) (none_there _ (sym c.is_some.ensures ∙ w.if-is_some.false))) ∙ written
    ]

pub returns : goal.returns
returns c =
    let t = c.loop-index-test.false in
    let e = c.loop-index.auto.index-end in
    let all : c.loop-index.index ≡ length c.args.best.now = omega arith in
    c.loop-index.invariant ∙ fill_end c.loop-index.index c.args.best.now None all ∙ ap (λ n. replicate n None) all

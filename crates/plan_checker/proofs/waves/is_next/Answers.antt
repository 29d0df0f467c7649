use Rattle.std.proofs.Common.{◌≡◌, length, ap, subst, sym, map, arith}
use Rattle.std.specs.List.{All}
use Rattle.std.specs.List.Sorted.{IsStrictlyIncreasing}
use Rattle.graph_model.specs.declared.graph.Uid.{Uid}
use Rattle.graph_model.specs.declared.list.List.{List as Sequence}
use Rattle.plan_checker.specs.Waves.{IsNew, IsReady}
use Rattle.plan_checker.proofs.SameTestFacts.{same_test}
use Rattle.plan_checker.proofs.WaveFacts.{next_wave, next_new, next_ready}
use Rattle.plan_checker.proofs.waves.is_next.Goals as goal

pub returns-then-not-are_new : goal.returns-then-not-are_new
returns-then-not-are_new c n =
    c.if-not-are_new.ensures
    (subst (λ us. All (λ (u : Uid). IsNew c.args.live.now c.args.before.now u.0) us) (sym c.as_slice-nodes.ensures)
    (next_new c.args.g.now c.args.live.now c.requires.live c.args.before.now c.args.wave.now n))

pub returns : goal.returns
returns c =
    let g = c.args.g.now in
    let live = c.args.live.now in
    let before = c.args.before.now in
    let w = c.args.wave.now in
    let same : c.as_slice-nodes.result.now ≡ w.nodes = c.as_slice-nodes.ensures in
    let some = c.if-not-is_filled.ensures in
    let long = ap (λ (us : Sequence Uid). length us) same in
    same_test c.are_ready.result c.are_ready.ensures
    (λ ready. next_wave g live c.requires.live before w (omega (arith, some))
    (subst (λ us. IsStrictlyIncreasing (map (λ (u : Uid). u.0) us)) same c.if-not-is_rising.ensures)
    (subst (λ us. All (λ (u : Uid). IsNew live before u.0) us) same c.if-not-are_new.ensures) (λ k lt. subst (λ us. IsReady g before us k) same (ready k lt)))
    (λ n k lt. subst (λ us. IsReady g before us k) (sym same) (next_ready g live c.requires.live before w n k lt))

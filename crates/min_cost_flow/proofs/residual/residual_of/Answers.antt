use Rattle.std.proofs.Common.{◌+◌, pos, length, [], ◌∷◌, ◌++◌, get_or, refl, sym, ap, subst, ◌∙◌, arith}
use Rattle.std.proofs.lemmas.Option.{slice_get-get_or}
use Rattle.min_cost_flow.specs.declared.network.Arc.{Arc}
use Rattle.min_cost_flow.specs.Residual.{forward, backward}
use Rattle.min_cost_flow.proofs.ResidualFacts.{IsResidualTo, IsResidualTo-forward, IsResidualTo-backward, IsResidual-all}
use Rattle.min_cost_flow.proofs.residual.residual_of.Goals as goal

pub loop-k-preserved : goal.loop-k-preserved
loop-k-preserved c =
    let arcs = c.args.arcs.now in
    let at = slice_get-get_or arcs c.loop-k.k (record { tail = 0; head = 0; least = pos 0 }) c.loop-k-test.true in
    let a : Arc = get_or arcs c.loop-k.k (record { tail = 0; head = 0; least = pos 0 }) in
    let edges = c.in_ok-add.ensures.edges ∙ ap (λ e. c.loop-k.residual.edges.items ++ e ∷ []) c.one_more.ensures in
    subst (λ x. IsResidualTo arcs (c.loop-k.k + 1) 0 x c.add.new.self.steps.items) (sym edges)
    (subst (λ x. IsResidualTo arcs (c.loop-k.k + 1) 0 (c.loop-k.residual.edges.items ++ forward a ∷ []) x) (sym c.in_ok-add.ensures.steps)
    (IsResidualTo-forward arcs c.loop-k.k c.loop-k.residual.edges.items c.loop-k.residual.steps.items a c.loop-k.invariant at))

pub loop-j-init : goal.loop-j-init
loop-j-init c =
    let t = c.loop-k-test.false in
    let e = c.loop-k.auto.k-end in
    subst (λ n. IsResidualTo c.args.arcs.now n 0 c.loop-k.residual.edges.items c.loop-k.residual.steps.items) (omega (arith, t, e)) c.loop-k.invariant

pub loop-j-preserved : goal.loop-j-preserved
loop-j-preserved c =
    let arcs = c.args.arcs.now in
    let at = slice_get-get_or arcs c.loop-j.j (record { tail = 0; head = 0; least = pos 0 }) c.loop-j-test.true in
    let a : Arc = get_or arcs c.loop-j.j (record { tail = 0; head = 0; least = pos 0 }) in
    let edges = c.in_ok-add-2.ensures.edges ∙ ap (λ e. c.loop-j.residual.edges.items ++ e ∷ []) c.one_fewer.ensures in
    subst (λ x. IsResidualTo arcs (length arcs) (c.loop-j.j + 1) x c.add-in-loop-j.new.self.steps.items) (sym edges)
    (subst (λ x. IsResidualTo arcs (length arcs) (c.loop-j.j + 1) (c.loop-j.residual.edges.items ++ backward a ∷ []) x) (sym c.in_ok-add-2.ensures.steps)
    (IsResidualTo-backward arcs (length arcs) c.loop-j.j c.loop-j.residual.edges.items c.loop-j.residual.steps.items a refl c.loop-j.invariant at))

pub returns : goal.returns
returns c =
    let t = c.loop-j-test.false in
    let e = c.loop-j.auto.j-end in
    IsResidual-all c.args.arcs.now (length c.args.arcs.now) c.loop-j.j c.loop-j.residual.edges.items c.loop-j.residual.steps.items refl (omega (arith, t, e)) c.loop-j.invariant

use Rattle.std.proofs.Common.{◌≡◌, ◌^◌, ◌+ℤ◌, length, Some, sym, ap, subst, ◌∙◌, arith}
use Rattle.std.proofs.lemmas.Option.{slice_get-get_or}
use Rattle.shortest_paths.specs.declared.edges.Edge.{Edge}
use Rattle.shortest_paths.specs.Walks.{Joins, IsWithin, number_of}
use Rattle.shortest_paths.specs.Nearest.{AreSmall}
use Rattle.min_cost_flow.proofs.AdmissibleFacts.{open_edge, numbers_each, numbers_small, edge_joins, edge_cost}
use Rattle.min_cost_flow.proofs.admissible.is_open.Goals as goal

pub bounds-is_on_path-edge : goal.bounds-is_on_path-edge
bounds-is_on_path-edge c =
    let e = c.index-edge.result.now in
    let j = subst (λ x. Joins c.args.net.now.points x) (sym c.index-edge.ensures) (edge_joins c.args.net.now c.args.walks.now c.requires.network c.requires.ready c.args.index e c.requires.index) in
    let l = j.1 in
    let marks = c.requires.marks in
    omega (arith, l, marks)

pub is_level-requires-clause-tail : goal.is_level-requires-clause-tail
is_level-requires-clause-tail c =
    let e = c.index-edge.result.now in
    let j = subst (λ x. Joins c.args.net.now.points x) (sym c.index-edge.ensures) (edge_joins c.args.net.now c.args.walks.now c.requires.network c.requires.ready c.args.index e c.requires.index) in
    let l = j.0 in
    let each = ap length c.deref.ensures.value ∙ numbers_each c.args.net.now c.args.walks.now c.requires.network c.requires.ready in
    omega (arith, l, each)

pub is_level-requires-clause-head : goal.is_level-requires-clause-head
is_level-requires-clause-head c =
    let e = c.index-edge.result.now in
    let j = subst (λ x. Joins c.args.net.now.points x) (sym c.index-edge.ensures) (edge_joins c.args.net.now c.args.walks.now c.requires.network c.requires.ready c.args.index e c.requires.index) in
    let l = j.1 in
    let each = ap length c.deref.ensures.value ∙ numbers_each c.args.net.now c.args.walks.now c.requires.network c.requires.ready in
    omega (arith, l, each)

pub is_level-requires-clause-cost : goal.is_level-requires-clause-cost
is_level-requires-clause-cost c =
    subst (λ (x : Edge). IsWithin (2 ^ 46) x.cost) (sym c.index-edge.ensures) (edge_cost c.args.net.now c.args.walks.now c.requires.network c.requires.ready c.args.index c.index-edge.result.now c.requires.index)

pub is_level-requires-clause-small : goal.is_level-requires-clause-small
is_level-requires-clause-small c = subst AreSmall (sym c.deref.ensures.value) (numbers_small c.args.net.now c.args.walks.now c.requires.network c.requires.ready)

pub returns : goal.returns
returns c level_is v leaves =
    let w = c.args.walks.now in
    let e = c.index-edge.result.now in
    let there = slice_get-get_or w.residual.edges.items c.args.index e c.requires.index ∙ ap Some (sym c.index-edge.ensures) in
    let level = subst (λ x. number_of x e.head ≡ number_of x e.tail +ℤ e.cost) c.deref.ensures.value (c.is_level.ensures level_is) in
    let l = c.if-index-len.false in
    let len = c.len.ensures in
    open_edge c.args.net.now.arcs w.residual.edges.items w.residual.steps.items w.search.numbers.items v c.args.index e c.requires.ready.2.residual (omega (arith, l, len)) there level leaves

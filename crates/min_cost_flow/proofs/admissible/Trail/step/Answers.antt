use Rattle.std.proofs.Common.{Some, refl, sym, ap, subst, ◌∙◌}
use Rattle.std.proofs.lemmas.Option.{slice_get-get_or, slice_get_within}
use Rattle.shortest_paths.specs.declared.edges.Edge.{Edge}
use Rattle.shortest_paths.proofs.WalkLaws.{some_same}
use Rattle.min_cost_flow.specs.Residual.{forward}
use Rattle.min_cost_flow.specs.Search.{potential_of}
use Rattle.min_cost_flow.specs.Admissible.{IsAdmissiblePath}
use Rattle.min_cost_flow.proofs.AdmissibleFacts.{path_on, edge_of}
use Rattle.min_cost_flow.proofs.admissible.Trail.step.Goals as goal

pub returns-clause-path : goal.returns-clause-path
returns-clause-path c from to named h =
    let net = c.args.net.now in
    let w = c.args.walks.now in
    let p = potential_of w.search.numbers.items in
    let k = c.in-Some.index in
    let e = c.index-2.result.now in
    let r = c.requires.ready.2.residual in
    let a = c.in-Some.ensures.open k refl in
    let l = slice_get_within w.residual.edges.items k (forward a.0) (r.forwards k a.0 a.1).0 in
    let there = slice_get-get_or w.residual.edges.items k e l ∙ ap Some (sym c.index-2.ensures) in
    let head = sym (ap (λ (x : Edge). x.head) (edge_of net.arcs w.residual.edges.items w.residual.steps.items k a.0 e r a.1 there)) ∙ some_same e.head to named in
    subst (λ x. IsAdmissiblePath net.arcs p from c.push.new.self.items x) head
    (subst (λ x. IsAdmissiblePath net.arcs p from x a.0.head) (sym c.in_ok-push.ensures.items) (path_on net.arcs p from c.args.at k c.args.self.now.path.items h a))

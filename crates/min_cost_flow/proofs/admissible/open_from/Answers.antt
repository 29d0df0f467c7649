use Rattle.std.proofs.Common.{◌<◌, sym, subst, ◌∙◌, arith}
use Rattle.std.proofs.lemmas.Option.{slice_get_within}
use Rattle.shortest_paths.proofs.WalkLaws.{some_same}
use Rattle.min_cost_flow.specs.Search.{potential_of}
use Rattle.min_cost_flow.specs.Admissible.{IsAdmissibleAt}
use Rattle.min_cost_flow.proofs.AdmissibleFacts.{leaves_older, left_of, left_falls}
use Rattle.min_cost_flow.proofs.admissible.open_from.Goals as goal

pub returns-then-is_open-clause-open : goal.returns-then-is_open-clause-open
returns-then-is_open-clause-open c k is =
    let here = c.is_open.ensures c.if-is_open.true c.args.point (c.loop-next.invariant c.in-Some.index c.in-Some.is) in
    subst (λ x. IsAdmissibleAt c.args.net.now.arcs (potential_of c.args.walks.now.search.numbers.items) c.args.point x) (some_same c.in-Some.index k is) here

pub older-next-requires : goal.older-next-requires
older-next-requires c =
    let leaves = c.loop-next.invariant c.in-Some.index c.in-Some.is in
    let l = slice_get_within c.args.walks.now.residual.edges.items c.in-Some.index leaves.0 leaves.1 in
    let len = c.requires.ready.2.leaving.older_each in
    omega (arith, l, len)

pub loop-next-smaller : goal.loop-next-smaller
loop-next-smaller c =
    let w = c.args.walks.now in
    let k = c.in-Some.index in
    let leaves = c.loop-next.invariant k c.in-Some.is in
    subst (λ o. left_of c.older-next.result < left_of o) (sym c.in-Some.is)
    (left_falls c.older-next.result k (λ j is. (leaves_older c.args.net.now.points w.residual.edges.items w.leaving c.args.point k j c.requires.ready.2.leaving leaves (sym c.older-next.ensures ∙ is)).1))

pub loop-next-preserved : goal.loop-next-preserved
loop-next-preserved c j is =
    let w = c.args.walks.now in
    let k = c.in-Some.index in
    (leaves_older c.args.net.now.points w.residual.edges.items w.leaving c.args.point k j c.requires.ready.2.leaving (c.loop-next.invariant k c.in-Some.is) (sym c.older-next.ensures ∙ is)).0

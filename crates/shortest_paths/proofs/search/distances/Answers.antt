use Rattle.std.proofs.Common.{◌<◌, sym, IsSome, subst, arith}
use Rattle.std.proofs.lemmas.Result.{IfOk-weaker}
use Rattle.shortest_paths.specs.Search.{found, IsSearched}
use Rattle.shortest_paths.proofs.FinalFacts.{costs_least, last_ends_least, none_at_start_alone, climbs_to_start, found_all}
use Rattle.shortest_paths.proofs.EndFacts.{found_within}
use Rattle.shortest_paths.proofs.search.distances.Goals as goal

pub read_off-requires-clause-found : goal.read_off-requires-clause-found
read_off-requires-clause-found c v l =
    let len = c.deref.ensures.len in
    let points = c.in_ok-best.ensures.points in
    subst (λ x. IsSome (found x v)) (sym c.deref.ensures.value)
    (found_all _ _ _ _ c.in_ok-best.ensures.searched c.in_ok-best.ensures.settled c.requires.reached v (omega (arith, len, points)))

pub read_off-requires-clause-bounded : goal.read_off-requires-clause-bounded
read_off-requires-clause-bounded c v b l f =
    let s = subst (λ x. IsSearched c.args.edges.now c.args.from x) (sym c.deref.ensures.value) c.in_ok-best.ensures.searched in
    let below : v < c.args.points = omega (arith, l, c.deref.ensures.len, c.in_ok-best.ensures.points) in
    found_within _ _ _ _ v b c.requires.points c.requires.ends c.requires.costs s below f

pub returns-clause-least : goal.returns-clause-least
returns-clause-least c =
    let best = c.in_ok-best.ensures in
    IfOk-weaker c.read_off.result _ _ (λ d r v l. costs_least _ _ _ _ _ _ best.searched best.settled c.requires.reached c.requires.ends _ c.deref.ensures.value r v l) c.read_off.ensures.read

pub returns-clause-none : goal.returns-clause-none
returns-clause-none c =
    let best = c.in_ok-best.ensures in
    IfOk-weaker c.read_off.result _ _ (λ d r v l h. none_at_start_alone _ _ _ _ _ _ best.searched best.settled c.requires.reached c.requires.ends _ c.deref.ensures.value r v l h) c.read_off.ensures.read

pub returns-clause-last : goal.returns-clause-last
returns-clause-last c =
    let best = c.in_ok-best.ensures in
    IfOk-weaker c.read_off.result _ _ (λ d r v k l h. last_ends_least _ _ _ _ _ _ best.searched best.settled c.requires.reached c.requires.ends _ c.deref.ensures.value r v k l h) c.read_off.ensures.read

pub returns-clause-tree : goal.returns-clause-tree
returns-clause-tree c =
    let best = c.in_ok-best.ensures in
    IfOk-weaker c.read_off.result _ _ (λ d r v l. climbs_to_start _ _ _ _ _ _ best.searched best.settled c.requires.reached c.requires.ends _ c.deref.ensures.value r v l) c.read_off.ensures.read

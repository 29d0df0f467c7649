use Rattle.std.proofs.Common.{◌+◌, pos, Some, set, slice_index_or, sym, ap, subst, ◌∙◌, arith}
use Rattle.std.proofs.lemmas.Option.{slice_get-get_or}
use Rattle.shortest_paths.specs.declared.edges.Edge.{Edge}
use Rattle.shortest_paths.proofs.LeavingFacts.{IsLeavingTo, leaving_next, leaving_all}
use Rattle.shortest_paths.proofs.leaving.Leaving.new.Goals as goal

pub loop-index-preserved : goal.loop-index-preserved
loop-index-preserved c =
    let n = c.loop-index.index in
    let edges = c.args.edges.now in
    let e : Edge = slice_index_or edges n (record { tail = 0; head = 0; cost = pos 0 }) in
    let at = slice_get-get_or edges n (record { tail = 0; head = 0; cost = pos 0 }) c.loop-index-test.true in
    let inside = (c.requires.ends n (record { tail = 0; head = 0; cost = pos 0 }) c.loop-index-test.true).0 in
    let len = c.loop-index.invariant.newest_each in
    let read = slice_get-get_or c.loop-index.newest.items e.tail c.index-before.result.now (omega arith) ∙ ap Some (sym c.index-before.ensures) in
    subst (λ x. IsLeavingTo c.args.points edges (n + 1) (set c.loop-index.newest.items e.tail (Some n)) x) (sym c.in_ok-push.ensures.items)
    (leaving_next c.args.points edges n c.loop-index.newest.items c.loop-index.older.items e c.index-before.result.now c.loop-index.invariant at inside read)

pub returns : goal.returns
returns c = let t = c.loop-index-test.false in let e = c.loop-index.auto.index-end in
    leaving_all c.args.points c.args.edges.now c.loop-index.index (record { newest = c.loop-index.newest; older = c.loop-index.older }) (omega (arith, t, e)) c.loop-index.invariant

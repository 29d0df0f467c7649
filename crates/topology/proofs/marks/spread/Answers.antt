use Rattle.std.proofs.Common.{rules, arith, ◌<◌, length, get_or, Bool, true, false, List, subst}
use Rattle.topology.specs.Links.{no_link}
use Rattle.topology.specs.Marks.{SpreadsAlong}
use Rattle.topology.proofs.MarkFacts.{along_kept, along_live, along_fewer, along_spread, along_count, match_bool}
use Rattle.topology.proofs.marks.spread.Goals as goal
use Rattle.topology.proofs.marks.spread.Goals.{then-spread_along, else-spread_along}

pub loop-e-preserved : goal.loop-e-preserved
loop-e-preserved c =
    let ls = c.args.links.now in
    let e = c.loop-e.e in
    let old : List Bool = c.loop-e.marks in
    let new : List Bool = c.spread_along.new.marks in
    let inv = c.loop-e.invariant in
    let along : SpreadsAlong (get_or ls e no_link) old new c.spread_along.result = c.spread_along.ensures in
    let inside : (get_or ls e no_link).from < length old = search rules in
    let count = along_count (get_or ls e no_link) old new c.spread_along.result inside along in
    record {
      kept = λ v t. along_kept (get_or ls e no_link) old new c.spread_along.result along v (inv.kept v t);
      live = λ g named links before. along_live g named ls links e old new c.spread_along.result c.loop-e-test.true along (inv.live g named links before);
      fewer = omega (arith, count, inv.fewer);
      more = elim c.if-spread_along.branch [
        | then-spread_along w ↦
            (let anew : SpreadsAlong (get_or ls e no_link) old new true = subst (SpreadsAlong (get_or ls e no_link) old new) w.if-spread_along.true along in
            rw w.changed-is (omega (arith, along_fewer (get_or ls e no_link) old new inside anew, inv.fewer)))
        | else-spread_along w ↦
            (let same : SpreadsAlong (get_or ls e no_link) old new false = subst (SpreadsAlong (get_or ls e no_link) old new) w.if-spread_along.false along in
            rw (w.changed-is) (match_bool c.loop-e.changed _ _ _ _ (λ less. omega (arith, count, less)) (along_spread ls e old new same) inv.more))
      ];
    }

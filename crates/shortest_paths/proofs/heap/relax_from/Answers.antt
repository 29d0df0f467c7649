use Rattle.std.proofs.Common.{◌<◌, length, Some, sym, ap, subst, ◌∙◌, arith}
use Rattle.std.specs.BinaryHeap.{heap_items, heap_len}
use Rattle.std.proofs.lemmas.Option.{slice_get-get_or}
use Rattle.shortest_paths.specs.Usable.{usable}
use Rattle.shortest_paths.specs.Leaving.{IsLatest}
use Rattle.shortest_paths.proofs.WalkLaws.{some_same}
use Rattle.shortest_paths.proofs.TurnFacts.{IsRelaxed-none, IsRelaxed-then, start_done, done_next, done_all, latest_before, fewer_left, steps_left}
use Rattle.shortest_paths.proofs.heap.relax_from.Goals as goal

pub loop-next-init : goal.loop-next-init
loop-next-init c =
    let edges = c.args.edges.now in
    let len = c.requires.leaving.newest_each in
    let q = c.requires.leaving.newest_is c.args.point c.requires.point in
    let read = slice_get-get_or c.args.leaving.now.newest.items c.args.point c.index-next.result.now (let l = c.requires.point in omega arith) ∙ ap Some (sym c.index-next.ensures) in
    record {
      relaxed = IsRelaxed-none (usable edges c.args.limits.now) c.args.numbers.now c.args.best.now (heap_items c.args.waiting.now) (heap_len c.args.waiting.now);
      bound = length edges;
      few = omega arith;
      latest = subst (λ o. IsLatest edges (length edges) c.args.point o) (some_same q.0 c.index-next.result.now (sym q.1 ∙ read)) q.2;
      done = start_done edges c.args.limits.now c.args.numbers.now c.args.best.now (heap_items c.args.waiting.now) c.args.point;
    }

pub loop-next-smaller : goal.loop-next-smaller
loop-next-smaller c =
    let edges = c.args.edges.now in
    let k = c.in-Some.index in
    let inv = c.loop-next.invariant in
    let latest = subst (λ o. IsLatest edges inv.bound c.args.point o) c.in-Some.is inv.latest in
    let len = c.requires.leaving.older_each in
    let few = inv.few in
    let read = slice_get-get_or c.args.leaving.now.older.items k c.index-next-in-Some.result.now (let l = latest.0 in omega arith) ∙ ap Some (sym c.index-next-in-Some.ensures) in
    let before = latest_before edges c.args.limits.now c.args.numbers.now c.loop-next.best (heap_items c.loop-next.waiting) c.args.point inv.bound k c.args.leaving.now.older.items c.index-next-in-Some.result.now latest inv.few c.requires.leaving.older_is read in
    subst (λ o. steps_left c.index-next-in-Some.result.now < steps_left o) (sym c.in-Some.is) (fewer_left edges k c.args.point c.index-next-in-Some.result.now before)

pub loop-next-preserved : goal.loop-next-preserved
loop-next-preserved c =
    let edges = c.args.edges.now in
    let limits = c.args.limits.now in
    let numbers = c.args.numbers.now in
    let k = c.in-Some.index in
    let inv = c.loop-next.invariant in
    let latest = subst (λ o. IsLatest edges inv.bound c.args.point o) c.in-Some.is inv.latest in
    let len = c.requires.leaving.older_each in
    let few = inv.few in
    let read = slice_get-get_or c.args.leaving.now.older.items k c.index-next-in-Some.result.now (let l = latest.0 in omega arith) ∙ ap Some (sym c.index-next-in-Some.ensures) in
    let relaxed = c.in_ok-relax_at.ensures.relaxed in
    record {
      relaxed = IsRelaxed-then (usable edges limits) numbers c.args.best.now c.loop-next.best c.relax_at.new.best (heap_items c.args.waiting.now) (heap_items c.loop-next.waiting) (heap_items c.relax_at.new.waiting)
          (heap_len c.args.waiting.now) (heap_len c.loop-next.waiting) (heap_len c.relax_at.new.waiting) c.loop-next.auto.best inv.relaxed relaxed;
      bound = k;
      few = (let l = latest.0 in omega arith);
      latest = latest_before edges limits numbers c.loop-next.best (heap_items c.loop-next.waiting) c.args.point inv.bound k c.args.leaving.now.older.items c.index-next-in-Some.result.now latest inv.few c.requires.leaving.older_is read;
      done = done_next edges limits numbers c.relax_at.new.best (heap_items c.relax_at.new.waiting) c.args.point inv.bound k latest (λ j e l there tail. relaxed.waits e (inv.done j e l there tail)) c.in_ok-relax_at.ensures.here;
    }

pub returns-clause-all : goal.returns-clause-all
returns-clause-all c others =
    let inv = c.loop-next.invariant in
    done_all c.args.edges.now c.args.limits.now c.args.numbers.now c.loop-next.best (heap_items c.loop-next.waiting) c.args.point inv.bound
    (subst (λ o. IsLatest c.args.edges.now inv.bound c.args.point o) c.in_default.is inv.latest) inv.done (λ e has ne. inv.relaxed.waits e (others e has ne))

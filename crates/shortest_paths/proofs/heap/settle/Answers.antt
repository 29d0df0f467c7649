use Rattle.std.proofs.Common.{◌-ℤ◌, length, sym, ap, subst, ◌∙◌, arith}
use Rattle.std.specs.BinaryHeap.{heap_items}
use Rattle.std.proofs.lemmas.List.Elements.{All-head, All-tail}
use Rattle.std.proofs.lemmas.List.Sorted.{All-permutation}
use Rattle.shortest_paths.specs.Walks.{number_of}
use Rattle.shortest_paths.specs.Usable.{usable}
use Rattle.shortest_paths.specs.Nearest.{IsWaiter, AreWaiters, AreSettledBelow}
use Rattle.shortest_paths.proofs.StopFacts.{read_limit}
use Rattle.shortest_paths.proofs.WaitFacts.{taken, taken_late, settled_below}
use Rattle.shortest_paths.proofs.heap.settle.Goals as goal

pub returns-then-is_enough-clause-settled : goal.returns-then-is_enough-clause-settled
returns-then-is_enough-clause-settled c =
    let edges = usable c.args.edges.now c.args.limits.now in
    let w = c.in-Some.field-0 in
    let inv = c.loop-ahead.invariant in
    let all = All-permutation (IsWaiter (length c.args.best.now) c.args.numbers.now) _ _ c.in-Some.ensures.moved inv.inside in
    let one = All-head (IsWaiter (length c.args.best.now) c.args.numbers.now) _ _ all in
    subst (λ z. AreSettledBelow c.loop-ahead.best c.args.numbers.now z edges) (sym (read_limit w.0.0 one.2))
    (settled_below edges c.loop-ahead.best c.args.numbers.now (heap_items c.loop-ahead.waiting) w inv.waits (c.in-Some.ensures.first inv.order))

pub relax_from-requires-clause-searched : goal.relax_from-requires-clause-searched
relax_from-requires-clause-searched c = let s = c.requires.searched in (s.0, c.loop-ahead.invariant.kept s.0 s.1)

pub loop-ahead-preserved-in-Continue-1 : goal.loop-ahead-preserved-in-Continue-1
loop-ahead-preserved-in-Continue-1 c =
    let edges = usable c.args.edges.now c.args.limits.now in
    let numbers = c.args.numbers.now in
    let inv = c.loop-ahead.invariant in
    let w = c.in-Some.field-0 in
    let all = All-permutation (IsWaiter (length c.args.best.now) numbers) _ _ c.in-Some.ensures.moved inv.inside in
    let rest = All-tail (IsWaiter (length c.args.best.now) numbers) _ _ all in
    let relaxed = c.in_ok-relax_from.ensures.relaxed in
    let len = c.loop-ahead.auto.best in
    record {
      kept = λ from s. relaxed.kept from (inv.kept from s);
      waits = c.in_ok-relax_from.ensures.all (taken edges c.loop-ahead.best numbers (heap_items c.loop-ahead.waiting) (heap_items c.take_nearest.new.waiting) w inv.waits c.in-Some.ensures.moved);
      order = relaxed.order (c.in-Some.ensures.order inv.order);
      inside = subst (λ n. AreWaiters n numbers (heap_items c.relax_from.new.waiting)) len (relaxed.inside (subst (λ n. AreWaiters n numbers (heap_items c.take_nearest.new.waiting)) (sym len) rest));
    }

pub loop-ahead-preserved : goal.loop-ahead-preserved
loop-ahead-preserved c =
    let edges = usable c.args.edges.now c.args.limits.now in
    let numbers = c.args.numbers.now in
    let inv = c.loop-ahead.invariant in
    let w = c.in-Some.field-0 in
    let all = All-permutation (IsWaiter (length c.args.best.now) numbers) _ _ c.in-Some.ensures.moved inv.inside in
    let one = All-head (IsWaiter (length c.args.best.now) numbers) _ _ all in
    let rest = All-tail (IsWaiter (length c.args.best.now) numbers) _ _ all in
    record {
      kept = inv.kept;
      waits = taken_late edges c.loop-ahead.best numbers (heap_items c.loop-ahead.waiting) (heap_items c.take_nearest.new.waiting) w inv.waits c.in-Some.ensures.moved
          (λ b f same. c.is_current.ensures.no c.if-is_current.false b f (same ∙ sym (read_limit w.0.1 one.3)));
      order = c.in-Some.ensures.order inv.order;
      inside = rest;
    }

pub is_current-requires : goal.is_current-requires
is_current-requires c =
    let all = All-permutation (IsWaiter (length c.args.best.now) c.args.numbers.now) _ _ c.in-Some.ensures.moved c.loop-ahead.invariant.inside in
    let one = All-head (IsWaiter (length c.args.best.now) c.args.numbers.now) _ _ all in
    let l = one.0 in
    let len = c.loop-ahead.auto.best in
    record { point = omega (arith, l, len) }

pub relax_from-requires-clause-point : goal.relax_from-requires-clause-point
relax_from-requires-clause-point c =
    let all = All-permutation (IsWaiter (length c.args.best.now) c.args.numbers.now) _ _ c.in-Some.ensures.moved c.loop-ahead.invariant.inside in
    let one = All-head (IsWaiter (length c.args.best.now) c.args.numbers.now) _ _ all in
    let l = one.0 in
    let len = c.loop-ahead.auto.best in
    omega (arith, l, len)

pub returns-then-is_enough-clause-stop : goal.returns-then-is_enough-clause-stop
returns-then-is_enough-clause-stop c =
    let w = c.in-Some.field-0 in
    let all = All-permutation (IsWaiter (length c.args.best.now) c.args.numbers.now) _ _ c.in-Some.ensures.moved c.loop-ahead.invariant.inside in
    let one = All-head (IsWaiter (length c.args.best.now) c.args.numbers.now) _ _ all in
    let yes = c.is_current.ensures.yes c.if-is_current.true in
    (c.is_enough.ensures c.if-is_enough.true, (yes.0, yes.1, read_limit w.0.0 one.2 ∙ one.1 ∙ ap (λ z. z -ℤ number_of c.args.numbers.now w.0.2) (sym (yes.2 ∙ read_limit w.0.1 one.3))))

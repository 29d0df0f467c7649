use Rattle.std.proofs.Common.{pos, length, refl, arith}
use Rattle.std.specs.BinaryHeap.{heap_items}
use Rattle.std.proofs.lemmas.Int.{ints}
use Rattle.std.proofs.lemmas.List.Elements.{All-cons}
use Rattle.std.proofs.lemmas.List.Sorted.{All-permutation}
use Rattle.shortest_paths.specs.Nearest.{waiter, IsWaiter}
use Rattle.shortest_paths.proofs.WaitFacts.{joined_waits, first_found, no_waiters, no_waiters_in_order}
use Rattle.shortest_paths.proofs.heap.begin.Goals as goal

pub returns-clause-waits : goal.returns-clause-waits
returns-clause-waits c =
    let found_first = first_found (length c.args.best.now) c.args.from c.forget.new.best c.requires.start c.forget.ensures in
    joined_waits _ _ _ (c.in_ok-wait.ensures.joins _ found_first)

pub returns-clause-order : goal.returns-clause-order
returns-clause-order c = c.in_ok-wait.ensures.order (no_waiters_in_order (heap_items c.clear.new.self) c.clear.ensures.items)

pub returns-clause-inside : goal.returns-clause-inside
returns-clause-inside c =
    let found_first = first_found (length c.args.best.now) c.args.from c.forget.new.best c.requires.start c.forget.ensures in
    All-permutation (IsWaiter (length c.args.best.now) c.args.numbers.now) _ _ (c.in_ok-wait.ensures.joins _ found_first)
    (All-cons (IsWaiter (length c.args.best.now) c.args.numbers.now) (waiter c.args.numbers.now (pos 0) c.args.from) (heap_items c.clear.new.self) (c.requires.start, refl, (let number = c.requires.small c.args.from in let low = number.0 in let high = number.1 in (omega (arith, ints), omega (arith, ints))), (omega (arith, ints), omega (arith, ints)))
    (no_waiters (length c.args.best.now) c.args.numbers.now (heap_items c.clear.new.self) c.clear.ensures.items))

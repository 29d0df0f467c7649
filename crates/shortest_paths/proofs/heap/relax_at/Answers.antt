use Rattle.std.proofs.Common.{◌+ℤ◌, length, Some, IsSome, refl, sym, subst, ◌∙◌, inl, arith}
use Rattle.std.specs.BinaryHeap.{heap_items, heap_len}
use Rattle.std.proofs.lemmas.Int.{ints}
use Rattle.std.proofs.lemmas.List.Elements.{All-contains, All-cons}
use Rattle.std.proofs.lemmas.List.Sorted.{All-permutation}
use Rattle.shortest_paths.specs.declared.edges.Edge.{Edge}
use Rattle.shortest_paths.specs.Walks.{Joins}
use Rattle.shortest_paths.specs.Usable.{usable}
use Rattle.shortest_paths.specs.Nearest.{waiter, Waits, IsWaiter}
use Rattle.shortest_paths.proofs.WalkLaws.{some_same, edge_at}
use Rattle.shortest_paths.proofs.EndFacts.{found_within}
use Rattle.shortest_paths.proofs.WaitFacts.{improved, at_head, same_length, improved_room, waits_kept, improved_settled, loop_settled}
use Rattle.shortest_paths.proofs.TurnFacts.{IsRelaxed-none}
use Rattle.shortest_paths.proofs.heap.relax_at.Goals as goal

pub relax-requires-clause-bounded : goal.relax-requires-clause-bounded
relax-requires-clause-bounded c v b l f =
    found_within (usable c.args.edges.now c.args.limits.now) (length c.args.best.now) c.requires.searched.0 c.args.best.now v b c.requires.points c.requires.ends c.requires.costs c.requires.searched.1 l f

pub wait-requires-clause-point : goal.wait-requires-clause-point
wait-requires-clause-point c =
    let edges = usable c.args.edges.now c.args.limits.now in
    let at = c.usable_edge-edge.ensures in
    let inside = (All-contains (Joins (length c.args.best.now)) edges c.usable_edge-edge.result c.requires.ends (edge_at edges c.args.index c.usable_edge-edge.result at)).1 in
    let len = same_length edges c.requires.searched.0 c.args.best.now c.relax.new.best c.args.numbers.now c.args.index c.usable_edge-edge.result c.requires.cycles c.requires.searched.1 at inside (c.relax.ensures.improved c.if-relax.true) in
    omega (arith, inside, len)

pub wait-requires-clause-found : goal.wait-requires-clause-found
wait-requires-clause-found c =
    let edges = usable c.args.edges.now c.args.limits.now in
    let at = c.usable_edge-edge.ensures in
    let inside = (All-contains (Joins (length c.args.best.now)) edges c.usable_edge-edge.result c.requires.ends (edge_at edges c.args.index c.usable_edge-edge.result at)).1 in
    subst (λ o. IsSome o) (sym (at_head edges c.requires.searched.0 c.args.best.now c.relax.new.best c.args.numbers.now c.args.index c.usable_edge-edge.result c.requires.cycles c.requires.searched.1 at inside (c.relax.ensures.improved c.if-relax.true))) refl

pub wait-requires-clause-bounded : goal.wait-requires-clause-bounded
wait-requires-clause-bounded c v b l f =
    let edges = usable c.args.edges.now c.args.limits.now in
    let at = c.usable_edge-edge.ensures in
    let inside = (All-contains (Joins (length c.args.best.now)) edges c.usable_edge-edge.result c.requires.ends (edge_at edges c.args.index c.usable_edge-edge.result at)).1 in
    let imp = c.relax.ensures.improved c.if-relax.true in
    let len = same_length edges c.requires.searched.0 c.args.best.now c.relax.new.best c.args.numbers.now c.args.index c.usable_edge-edge.result c.requires.cycles c.requires.searched.1 at inside imp in
    let s = improved edges c.requires.searched.0 c.args.best.now c.relax.new.best c.args.numbers.now c.args.index c.usable_edge-edge.result c.requires.cycles c.requires.searched.1 at inside imp in
    found_within edges (length c.args.best.now) c.requires.searched.0 c.relax.new.best v b c.requires.points c.requires.ends c.requires.costs s (omega (arith, l, len)) f

pub returns-in_ok-wait-clause-relaxed : goal.returns-in_ok-wait-clause-relaxed
returns-in_ok-wait-clause-relaxed c =
    let edges = usable c.args.edges.now c.args.limits.now in
    let numbers = c.args.numbers.now in
    let d = c.usable_edge-edge.result in
    let at = c.usable_edge-edge.ensures in
    let inside = (All-contains (Joins (length c.args.best.now)) edges d c.requires.ends (edge_at edges c.args.index d at)).1 in
    let imp = c.relax.ensures.improved c.if-relax.true in
    let s = c.requires.searched in
    let less = improved_room edges s.0 c.args.best.now c.relax.new.best numbers c.args.index d c.requires.cycles s.1 at inside imp c.requires.points c.requires.ends c.requires.costs in
    let len = c.in_ok-wait.ensures.len in
    let joins = c.in_ok-wait.ensures.joins in
    let head = at_head edges s.0 c.args.best.now c.relax.new.best numbers c.args.index d c.requires.cycles s.1 at inside imp in
    let next = improved edges s.0 c.args.best.now c.relax.new.best numbers c.args.index d c.requires.cycles s.1 at inside imp in
    let cost = found_within edges (length c.args.best.now) s.0 c.relax.new.best d.head (record { cost = imp.tail.cost +ℤ d.cost; last = Some c.args.index }) c.requires.points c.requires.ends c.requires.costs next inside head in
    let number = c.requires.small d.head in
    record {
      kept = λ from t. improved edges from c.args.best.now c.relax.new.best numbers c.args.index d c.requires.cycles t at inside imp;
      falls = omega (arith, less, len);
      waits = λ e w. waits_kept edges s.0 c.args.best.now c.relax.new.best numbers c.args.index d c.requires.cycles s.1 at inside imp (heap_items c.args.waiting.now) (heap_items c.wait.new.waiting) e joins w;
      order = c.in_ok-wait.ensures.order;
      inside = λ all. All-permutation (IsWaiter (length c.args.best.now) numbers) _ _ (joins (record { cost = imp.tail.cost +ℤ d.cost; last = Some c.args.index }) head)
          (All-cons (IsWaiter (length c.args.best.now) numbers) (waiter numbers (imp.tail.cost +ℤ d.cost) d.head) (heap_items c.args.waiting.now) (inside, refl, (omega (arith, ints, cost.0, cost.1, number.0, number.1), omega (arith, ints, cost.0, cost.1, number.0, number.1)), (omega (arith, ints, cost.0), omega (arith, ints, cost.1))) all);
    }

pub returns-in_ok-wait-clause-here : goal.returns-in_ok-wait-clause-here
returns-in_ok-wait-clause-here c e there =
    let edges = usable c.args.edges.now c.args.limits.now in
    let numbers = c.args.numbers.now in
    let d = c.usable_edge-edge.result in
    let at = c.usable_edge-edge.ensures in
    let inside = (All-contains (Joins (length c.args.best.now)) edges d c.requires.ends (edge_at edges c.args.index d at)).1 in
    let imp = c.relax.ensures.improved c.if-relax.true in
    let s = c.requires.searched in
    let settled = improved_settled edges s.0 c.args.best.now c.relax.new.best numbers c.args.index d c.requires.cycles s.1 at inside imp in
    subst (λ (x : Edge). Waits c.relax.new.best numbers (heap_items c.wait.new.waiting) x) (some_same d e (sym at ∙ there)) (λ b f. inl (settled b f))

pub returns-then-edge-clause-relaxed : goal.returns-then-edge-clause-relaxed
returns-then-edge-clause-relaxed c = IsRelaxed-none (usable c.args.edges.now c.args.limits.now) c.args.numbers.now c.args.best.now (heap_items c.args.waiting.now) (heap_len c.args.waiting.now)

pub returns-then-edge-clause-here : goal.returns-then-edge-clause-here
returns-then-edge-clause-here c e there =
    let edges = usable c.args.edges.now c.args.limits.now in
    let d = c.usable_edge-edge.result in
    let at = c.usable_edge-edge.ensures in
    let settled = loop_settled edges c.args.best.now d c.requires.cycles (edge_at edges c.args.index d at) c.if-edge.true in
    subst (λ (x : Edge). Waits c.args.best.now c.args.numbers.now (heap_items c.args.waiting.now) x) (some_same d e (sym at ∙ there)) (λ b f. inl (settled b f))

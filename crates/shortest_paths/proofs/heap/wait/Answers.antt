use Rattle.std.proofs.Common.{◌∷◌, ◌-ℤ◌, FitsSigned, w64, sym, subst, ◌∙◌, arith}
use Rattle.std.specs.List.Sorted.{IsPermutation}
use Rattle.std.specs.BinaryHeap.{heap_items}
use Rattle.std.proofs.lemmas.Int.{ints, to_z-of_z}
use Rattle.shortest_paths.specs.declared.edges.Best.{Best}
use Rattle.shortest_paths.specs.Walks.{number_of}
use Rattle.shortest_paths.specs.Nearest.{waiter, Waiter}
use Rattle.shortest_paths.proofs.WalkLaws.{some_same}
use Rattle.shortest_paths.proofs.heap.wait.Goals as goal

pub returns-clause-joins : goal.returns-clause-joins
returns-clause-joins c b f =
    let numbers = c.args.numbers.now in
    let walk = c.in-Some.walk in
    let cost = c.requires.bounded c.args.point walk c.requires.point c.in-Some.is in
    let number = c.requires.small c.args.point in
    let cost_fits : FitsSigned w64 walk.cost = omega (arith, ints, cost.0, cost.1) in
    let number_fits : FitsSigned w64 (number_of numbers c.args.point) = omega (arith, ints, number.0, number.1) in
    let ahead_fits : FitsSigned w64 (walk.cost -ℤ number_of numbers c.args.point) = omega (arith, ints, cost.0, cost.1, number.0, number.1) in
    let moved : IsPermutation {X = Waiter} (waiter numbers walk.cost c.args.point ∷ heap_items c.args.waiting.now) (heap_items c.push.new.self) =
    simp (to_z-of_z w64 walk.cost cost_fits, to_z-of_z w64 (number_of numbers c.args.point) number_fits, to_z-of_z w64 (walk.cost -ℤ number_of numbers c.args.point) ahead_fits) at c.in_ok-push.ensures.permutation in
    subst (λ (x : Best). IsPermutation {X = Waiter} (waiter numbers x.cost c.args.point ∷ heap_items c.args.waiting.now) (heap_items c.push.new.self)) (some_same walk b (sym c.in-Some.is ∙ f)) moved

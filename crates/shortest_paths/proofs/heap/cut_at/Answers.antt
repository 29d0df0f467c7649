use Rattle.std.proofs.Common.{◌+◌, ◌+ℤ◌, ◌^◌, pos, slice_index_or, set, None, inl, inr, sym, ap, subst, ◌∙◌, arith, get_or-set_same}
use Rattle.std.proofs.lemmas.Int.{ints}
use Rattle.shortest_paths.specs.Walks.{number_of, IsWithin}
use Rattle.shortest_paths.specs.Search.{found}
use Rattle.shortest_paths.specs.Nearest.{IsCutAt}
use Rattle.shortest_paths.proofs.StopFacts.{read_limit, read_sum}
use Rattle.shortest_paths.proofs.heap.cut_at.Goals as goal

pub returns-clause-here : goal.returns-clause-here
returns-clause-here c =
    let i = c.args.point in
    let number = c.requires.number in
    let limit = c.requires.limit in
    let sum = c.moved.ensures ∙ ap (λ z. number_of c.args.numbers.now i +ℤ z) (read_limit c.args.limit c.requires.limit) in
    let a = number.0 in let b = number.1 in let d = limit.0 in let e = limit.1 in
    let read = read_sum c.moved.result (omega (arith, ints), omega (arith, ints)) ∙ sum in
    let w = c.within-walk.result in
    let at = c.within-walk.ensures in
    let fits : IsWithin (2 ^ 60 + 2 ^ 62) w.cost = elim at [
      | inl near ↦ let cost = near.3 in let bound = c.requires.bounded i near.0 c.requires.point near.1 in let low = bound.0 in let high = bound.1 in (omega (arith, ints), omega (arith, ints))
      | inr away ↦ let cost = away.1 in (omega (arith, ints), omega (arith, ints))
    ] in
    subst (λ z. IsCutAt (found c.args.best.now i) (number_of c.args.numbers.now i +ℤ c.args.limit) (number_of (set c.args.numbers.now i z) i) (slice_index_or (set c.args.last.now i w.last) i None)) (sym (read_sum w.cost fits))
    (subst (λ x. IsCutAt (found c.args.best.now i) (number_of c.args.numbers.now i +ℤ c.args.limit) x (slice_index_or (set c.args.last.now i w.last) i None)) (sym (get_or-set_same c.args.numbers.now i w.cost (pos 0) (let l = c.requires.point in let n = c.requires.numbers in omega arith)))
    (subst (λ x. IsCutAt (found c.args.best.now i) (number_of c.args.numbers.now i +ℤ c.args.limit) w.cost x) (sym (get_or-set_same c.args.last.now i w.last None (let l = c.requires.point in let n = c.requires.last in omega arith)))
    (subst (λ z. IsCutAt (found c.args.best.now i) z w.cost w.last) read c.within-walk.ensures)))

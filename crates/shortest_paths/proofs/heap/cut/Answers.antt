use Rattle.std.proofs.Common.{◌+ℤ◌, ◌^◌, slice_index_or, None, inl, inr, to_z, of_z, w64, sym, subst, ◌∙◌, arith}
use Rattle.std.proofs.lemmas.Bool.{cases_eq}
use Rattle.shortest_paths.specs.Walks.{number_of, IsWithin}
use Rattle.shortest_paths.specs.Search.{found}
use Rattle.shortest_paths.specs.Nearest.{IsCutAt}
use Rattle.shortest_paths.proofs.heap.cut.Goals as goal

pub cut_at-requires-clause-number : goal.cut_at-requires-clause-number
cut_at-requires-clause-number c = subst (λ z. IsWithin (2 ^ 60) z) (sym (c.loop-point.invariant.rest c.loop-point.point (omega arith))) (c.requires.small c.loop-point.point)

pub loop-point-preserved : goal.loop-point-preserved
loop-point-preserved c =
    let i = c.loop-point.point in
    let inv = c.loop-point.invariant in
    let limit = to_z w64 (of_z w64 c.args.limit) in
    let here = c.cut_at.ensures.here in
    record {
      done = λ v l. elim (cases_eq v i) [
        | inl same ↦
            subst (λ x. IsCutAt (found c.args.best.now x) (number_of c.args.numbers.now x +ℤ limit) (number_of c.cut_at.new.numbers x) (slice_index_or c.cut_at.new.last x None)) (sym same)
            (subst (λ z. IsCutAt (found c.args.best.now i) (z +ℤ limit) (number_of c.cut_at.new.numbers i) (slice_index_or c.cut_at.new.last i None)) (inv.rest i (omega arith)) here)
        | inr ne ↦
            subst (λ x. IsCutAt (found c.args.best.now v) (number_of c.args.numbers.now v +ℤ limit) x (slice_index_or c.cut_at.new.last v None)) (sym (c.cut_at.ensures.numbers v ne))
            (subst (λ x. IsCutAt (found c.args.best.now v) (number_of c.args.numbers.now v +ℤ limit) (number_of c.loop-point.numbers v) x) (sym (c.cut_at.ensures.lasts v ne)) (inv.done v (omega arith)))
      ];
      rest = λ v l. c.cut_at.ensures.numbers v (λ same. let q = same in omega arith) ∙ inv.rest v (omega arith);
    }

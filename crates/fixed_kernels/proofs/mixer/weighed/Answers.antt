use Rattle.std.proofs.Common.{rules, arith, ◌≡◌, ℕ, ◌+◌, ◌*◌, List, ℤ, length, take, pos, get_or, sym, ap, ◌∙◌, add-one, w32, w64, FitsSigned}
use Rattle.std.specs.Prelude.{◌+ℤ◌, ◌*ℤ◌}
use Rattle.std.specs.Int.{w128}
use Rattle.std.proofs.lemmas.Int.{to_z-of_z}
use Rattle.std.proofs.lemmas.List.FromFn.{get_or-map-range_with_len}
use Rattle.graph_model.specs.Filters.{products}
use Rattle.graph_model.specs.Blocks.{planar_frame}
use Rattle.fixed_kernels.proofs.SumLaws.{products-take_more}
use Rattle.fixed_kernels.proofs.mixer.weighed.Goals as goal

pub loop-c-preserved : goal.loop-c-preserved
loop-c-preserved c =
    let i : ℕ = c.loop-c.c in
    let row : List ℤ = c.args.row.now in
    let ins : List ℤ = c.args.ins.now in
    let frame : List ℤ = planar_frame (length row) c.args.frames ins c.args.t in
    let coefficient : FitsSigned w32 (get_or row i (pos 0)) = search rules in
    let sample : FitsSigned w64 (get_or ins (i * c.args.frames + c.args.t) (pos 0)) = search rules in
    let fits : FitsSigned w128 c.plus_product-sum.result = search rules in
    let step = simp to_z-of_z at c.plus_product-sum.ensures.value in
    let at : get_or frame i (pos 0) ≡ get_or ins (i * c.args.frames + c.args.t) (pos 0)
    = get_or-map-range_with_len (λ d. get_or ins (d * c.args.frames + c.args.t) (pos 0)) 0 (length row) i i (pos 0) (omega arith) (omega arith) in
    let more = products-take_more row frame i ∙ ap (λ y. products (take i row) frame +ℤ (get_or row i (pos 0) *ℤ y)) at in
    record {
      value = rw (to_z-of_z w128 c.plus_product-sum.result fits, step, c.loop-c.invariant.value, add-one) (sym more);
      size = rw (to_z-of_z w128 c.plus_product-sum.result fits) (omega (arith, c.plus_product-sum.ensures.size, c.loop-c.invariant.size));
    }

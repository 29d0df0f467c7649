use Rattle.std.proofs.Common.{rules, arith, ℤ, refl, w32, w64, FitsSigned}
use Rattle.std.specs.Prelude.{◌+ℤ◌, ◌*ℤ◌}
use Rattle.std.proofs.lemmas.Int.{to_z-of_z, fits_signed_from_abs}
use Rattle.fixed_kernels.proofs.NarrowFacts.{abs-within}
use Rattle.fixed_kernels.proofs.SumLaws.{abs-add}
use Rattle.fixed_kernels.proofs.narrow.plus_half.Goals as goal

pub overflow_add-result : goal.overflow_add-result
overflow_add-result c =
    let a : ℤ = c.args.sum in
    let t : ℤ = c.args.coefficient in
    let x : ℤ = c.args.sample in
    let sum : FitsSigned w64 c.args.sum = search rules in
    let coefficient : FitsSigned w32 c.args.coefficient = search rules in
    let sample : FitsSigned w64 c.args.sample = search rules in
    let fits : FitsSigned w64 c.half_product.result = search rules in
    let value = simp to_z-of_z at c.half_product.ensures in
    let size = abs-add a (t *ℤ x) in
    let part = abs-within t x c.args.most c.requires.within in
    rw (to_z-of_z w64 c.args.sum sum, to_z-of_z w64 c.half_product.result fits, value) (fits_signed_from_abs w64 _ (omega (arith, size, part, c.requires.fits)))

pub returns : goal.returns
returns c =
    let a : ℤ = c.args.sum in
    let t : ℤ = c.args.coefficient in
    let x : ℤ = c.args.sample in
    let sum : FitsSigned w64 c.args.sum = search rules in
    let coefficient : FitsSigned w32 c.args.coefficient = search rules in
    let sample : FitsSigned w64 c.args.sample = search rules in
    let fits : FitsSigned w64 c.half_product.result = search rules in
    let value = simp to_z-of_z at c.half_product.ensures in
    let size = abs-add a (t *ℤ x) in
    let part = abs-within t x c.args.most c.requires.within in
    let whole : FitsSigned w64 (a +ℤ (t *ℤ x)) = fits_signed_from_abs w64 _ (omega (arith, size, part, c.requires.fits)) in
    rw (to_z-of_z w64 c.args.sum sum, to_z-of_z w64 c.half_product.result fits, value, to_z-of_z w64 (a +ℤ (t *ℤ x)) whole)
    (record { value = refl; size = omega (arith, size, part) })

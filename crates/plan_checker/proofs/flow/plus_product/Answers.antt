use Rattle.std.proofs.Common.{rules, arith, FitsSigned}
use Rattle.std.specs.Int.{w128}
use Rattle.std.proofs.lemmas.Int.{ints, to_z-of_z, fits_signed_from_abs}
use Rattle.plan_checker.proofs.flow.plus_product.Goals as goal

pub overflow_add-result : goal.overflow_add-result
overflow_add-result c =
    let fits : FitsSigned w128 c.product.result = search rules in
    rw (to_z-of_z w128 c.args.sum c.ranges.sum, to_z-of_z w128 c.product.result fits)
    (fits_signed_from_abs w128 _ (omega (arith, ints, c.product.ensures.size, c.requires.small)))

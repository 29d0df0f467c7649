use Rattle.std.proofs.Common.{rules, arith, ◌≡◌, ℕ, ◌+◌, ◌<◌, List, ℤ, length, pos, get_or, ap, ◌∙◌, w32, w64, FitsSigned, to_z, of_z}
use Rattle.std.specs.Prelude.{◌+ℤ◌, ◌*ℤ◌}
use Rattle.std.proofs.lemmas.Int.{to_z-of_z}
use Rattle.fixed_kernels.proofs.NarrowFacts.{part_fits, part_more}
use Rattle.fixed_kernels.proofs.narrow.four_half_sums.Goals as goal

pub plus_half-a-requires-clause-fits : goal.plus_half-a-requires-clause-fits
plus_half-a-requires-clause-fits c =
    let k : ℕ = c.loop-k.k in
    let ts : List ℤ = c.args.coefficients.now in
    let coefficient : FitsSigned w32 (get_or ts k (pos 0)) = search rules in
    rw (to_z-of_z w32 (get_or ts k (pos 0)) coefficient)
    (part_fits c.args.most ts c.args.samples.now 0 k (to_z w64 c.loop-k.a-bits) (omega arith) c.requires.small c.loop-k.invariant.first)

pub plus_half-b-requires-clause-fits : goal.plus_half-b-requires-clause-fits
plus_half-b-requires-clause-fits c =
    let k : ℕ = c.loop-k.k in
    let ts : List ℤ = c.args.coefficients.now in
    let coefficient : FitsSigned w32 (get_or ts k (pos 0)) = search rules in
    rw (to_z-of_z w32 (get_or ts k (pos 0)) coefficient)
    (part_fits c.args.most ts c.args.samples.now 1 k (to_z w64 c.loop-k.b-bits) (omega arith) c.requires.small c.loop-k.invariant.second)

pub plus_half-c-requires-clause-fits : goal.plus_half-c-requires-clause-fits
plus_half-c-requires-clause-fits c =
    let k : ℕ = c.loop-k.k in
    let ts : List ℤ = c.args.coefficients.now in
    let coefficient : FitsSigned w32 (get_or ts k (pos 0)) = search rules in
    rw (to_z-of_z w32 (get_or ts k (pos 0)) coefficient)
    (part_fits c.args.most ts c.args.samples.now 2 k (to_z w64 c.loop-k.c-bits) (omega arith) c.requires.small c.loop-k.invariant.third)

pub plus_half-d-requires-clause-fits : goal.plus_half-d-requires-clause-fits
plus_half-d-requires-clause-fits c =
    let k : ℕ = c.loop-k.k in
    let ts : List ℤ = c.args.coefficients.now in
    let coefficient : FitsSigned w32 (get_or ts k (pos 0)) = search rules in
    rw (to_z-of_z w32 (get_or ts k (pos 0)) coefficient)
    (part_fits c.args.most ts c.args.samples.now 3 k (to_z w64 c.loop-k.d-bits) (omega arith) c.requires.small c.loop-k.invariant.fourth)

pub plus_half-d-requires-clause-within : goal.plus_half-d-requires-clause-within
plus_half-d-requires-clause-within c =
    let k : ℕ = c.loop-k.k in
    let xs : List ℤ = c.args.samples.now in
    let sample : FitsSigned w64 (get_or xs (k + 3) (pos 0)) = search rules in
    rw (to_z-of_z w64 (get_or xs (k + 3) (pos 0)) sample) (c.requires.within (k + 3) (omega (arith, c.requires.count)))

pub loop-k-preserved : goal.loop-k-preserved
loop-k-preserved c =
    let k : ℕ = c.loop-k.k in
    let ts : List ℤ = c.args.coefficients.now in
    let xs : List ℤ = c.args.samples.now in
    let lt : k < length ts = omega arith in
    let coefficient : FitsSigned w32 (get_or ts k (pos 0)) = search rules in
    let sample_a : FitsSigned w64 (get_or xs k (pos 0)) = search rules in
    let fits_a : FitsSigned w64 c.plus_half-a.result = search rules in
    let value_a = simp to_z-of_z at c.plus_half-a.ensures.value in
    let size_a = simp to_z-of_z at c.plus_half-a.ensures.size in
    let same_a : k ≡ 0 + k = omega arith in
    let back_a : to_z w64 (of_z w64 c.plus_half-a.result) ≡ c.plus_half-a.result = to_z-of_z w64 c.plus_half-a.result fits_a in
    let sample_b : FitsSigned w64 (get_or xs (k + 1) (pos 0)) = search rules in
    let fits_b : FitsSigned w64 c.plus_half-b.result = search rules in
    let value_b = simp to_z-of_z at c.plus_half-b.ensures.value in
    let size_b = simp to_z-of_z at c.plus_half-b.ensures.size in
    let same_b : (k + 1) ≡ 1 + k = omega arith in
    let back_b : to_z w64 (of_z w64 c.plus_half-b.result) ≡ c.plus_half-b.result = to_z-of_z w64 c.plus_half-b.result fits_b in
    let sample_c : FitsSigned w64 (get_or xs (k + 2) (pos 0)) = search rules in
    let fits_c : FitsSigned w64 c.plus_half-c.result = search rules in
    let value_c = simp to_z-of_z at c.plus_half-c.ensures.value in
    let size_c = simp to_z-of_z at c.plus_half-c.ensures.size in
    let same_c : (k + 2) ≡ 2 + k = omega arith in
    let back_c : to_z w64 (of_z w64 c.plus_half-c.result) ≡ c.plus_half-c.result = to_z-of_z w64 c.plus_half-c.result fits_c in
    let sample_d : FitsSigned w64 (get_or xs (k + 3) (pos 0)) = search rules in
    let fits_d : FitsSigned w64 c.plus_half-d.result = search rules in
    let value_d = simp to_z-of_z at c.plus_half-d.ensures.value in
    let size_d = simp to_z-of_z at c.plus_half-d.ensures.size in
    let same_d : (k + 3) ≡ 3 + k = omega arith in
    let back_d : to_z w64 (of_z w64 c.plus_half-d.result) ≡ c.plus_half-d.result = to_z-of_z w64 c.plus_half-d.result fits_d in
    record {
      first = part_more c.args.most ts xs 0 k (to_z w64 c.loop-k.a-bits) (to_z w64 (of_z w64 c.plus_half-a.result)) lt c.loop-k.invariant.first
          (back_a ∙ value_a ∙ ap (λ i. to_z w64 c.loop-k.a-bits +ℤ (get_or ts k (pos 0) *ℤ get_or xs i (pos 0))) same_a) (rw back_a size_a);
      second = part_more c.args.most ts xs 1 k (to_z w64 c.loop-k.b-bits) (to_z w64 (of_z w64 c.plus_half-b.result)) lt c.loop-k.invariant.second
          (back_b ∙ value_b ∙ ap (λ i. to_z w64 c.loop-k.b-bits +ℤ (get_or ts k (pos 0) *ℤ get_or xs i (pos 0))) same_b) (rw back_b size_b);
      third = part_more c.args.most ts xs 2 k (to_z w64 c.loop-k.c-bits) (to_z w64 (of_z w64 c.plus_half-c.result)) lt c.loop-k.invariant.third
          (back_c ∙ value_c ∙ ap (λ i. to_z w64 c.loop-k.c-bits +ℤ (get_or ts k (pos 0) *ℤ get_or xs i (pos 0))) same_c) (rw back_c size_c);
      fourth = part_more c.args.most ts xs 3 k (to_z w64 c.loop-k.d-bits) (to_z w64 (of_z w64 c.plus_half-d.result)) lt c.loop-k.invariant.fourth
          (back_d ∙ value_d ∙ ap (λ i. to_z w64 c.loop-k.d-bits +ℤ (get_or ts k (pos 0) *ℤ get_or xs i (pos 0))) same_d) (rw back_d size_d);
    }

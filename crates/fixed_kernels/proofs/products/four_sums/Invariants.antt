use Rattle.fixed_kernels.specs.Sums.{IsWidePart}
use Rattle.fixed_kernels.proofs.products.four_sums.Given as goal

abbrev pub invariant-loop-k : goal.invariant-loop-k
invariant-loop-k l = record {
  first : IsWidePart l.coefficients l.samples 0 l.k l.a;
  second : IsWidePart l.coefficients l.samples 1 l.k l.b;
  third : IsWidePart l.coefficients l.samples 2 l.k l.c;
  fourth : IsWidePart l.coefficients l.samples 3 l.k l.d;
}

use Rattle.fixed_kernels.specs.Sums.{IsPart}
use Rattle.fixed_kernels.proofs.narrow.four_half_sums.Given as goal

abbrev pub invariant-loop-k : goal.invariant-loop-k
invariant-loop-k l = record {
  first : IsPart l.most l.coefficients l.samples 0 l.k l.a;
  second : IsPart l.most l.coefficients l.samples 1 l.k l.b;
  third : IsPart l.most l.coefficients l.samples 2 l.k l.c;
  fourth : IsPart l.most l.coefficients l.samples 3 l.k l.d;
}

use Rattle.std.proofs.Common.{◌≡◌, ◌^◌, ◌∷◌, []}
use Rattle.graph_model.specs.Kinds.{ins_of, outs_of}
use Rattle.kernel_tests.proofs.fixed.last_of.Given as goal

abbrev pub invariant-loop : goal.invariant-loop
invariant-loop l = record {
  ins : ins_of l.fir.kind ≡ 1;
  outs : outs_of l.fir.kind ≡ 1;
  bound : l.fir.bound.ins ≡ 2 ^ 40 ∷ [];
}

use Rattle.std.proofs.Common.{◌≡◌}
use Rattle.graph_model.specs.declared.kind.Kind.TheVariants.{Insert}
use Rattle.kernel_tests.proofs.fixed.an_insert_of_five_frames.Given as goal

abbrev pub invariant-loop : goal.invariant-loop
invariant-loop g l = l.insert.kind ≡ Insert 1 5

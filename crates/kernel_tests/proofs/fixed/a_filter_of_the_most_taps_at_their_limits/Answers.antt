use Rattle.std.proofs.Common.{arith, ◌≡◌, ◌^◌, length, pos, ap, ◌∙◌}
use Rattle.std.proofs.lemmas.List.{length-replicate}
use Rattle.kernel_tests.proofs.TapFacts.{All-replicate}
use Rattle.kernel_tests.proofs.fixed.a_filter_of_the_most_taps_at_their_limits.Goals as goal

pub make-requires-clause-range : goal.make-requires-clause-range
make-requires-clause-range g c =
    let many : length c.in_ok-greatest_taps.field-0 ≡ 4096 = ap length c.in_ok-greatest_taps.ensures ∙ length-replicate 4096 (pos 16777215) in (
      (omega arith, omega arith),
      (omega arith, omega arith),
      rw c.in_ok-greatest_taps.ensures (All-replicate 4096 (2 ^ 24) (pos 16777215) (omega arith)),
      omega arith,
      omega arith,
    )

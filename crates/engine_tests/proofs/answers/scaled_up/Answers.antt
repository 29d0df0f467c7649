use Rattle.std.proofs.Common.{◌+◌, ◌≤◌, ◌^◌, length, get_or, ap, ◌∙◌, length-append, ℤ, pos, ◌*ℤ◌, to_z, of_z, w16, w64, unsigned_abs, arith}
use Rattle.std.proofs.lemmas.Int.{ints}
use Rattle.std.proofs.lemmas.List.Elements.{All-push, All-same}
use Rattle.engine_tests.proofs.answers.scaled_up.Goals as goal

small : (x : ℤ) → unsigned_abs (to_z w64 (of_z w64 (to_z w64 (of_z w64 (to_z w16 (of_z w16 x))) *ℤ pos 65536))) ≤ 2 ^ 31
small x = omega (arith, ints)

pub loop-sample-preserved : goal.loop-sample-preserved
loop-sample-preserved c = record {
  count = ap length c.in_ok-push.ensures.ok ∙ length-append c.loop-sample.values _ ∙ ap (λ k. k + 1) c.loop-sample.invariant.count;
  small = All-same (λ x. unsigned_abs x ≤ 2 ^ 31) _ _ c.in_ok-push.ensures.ok
      (All-push (λ x. unsigned_abs x ≤ 2 ^ 31) c.loop-sample.values _ c.loop-sample.invariant.small (small (get_or c.args.samples.now c.loop-sample.sample-index (pos 0))));
}

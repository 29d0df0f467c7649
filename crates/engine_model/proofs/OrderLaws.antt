-- The orders of a block of a certified plan: there is one, and none shows.
use Rattle.std.proofs.Common.{ℕ, List, [], ◌∷◌, map, refl}
use Rattle.std.specs.List.{All}
use Rattle.std.specs.List.Sorted.{IsStrictlyIncreasing}
use Rattle.std.proofs.lemmas.Bool.{false_from_ne_true}
use Rattle.std.proofs.lemmas.List.Elements.{All-head, All-tail}
use Rattle.plan_model.specs.Certified.{positions}
use Rattle.plan_model.specs.Schedules.{names}
use Rattle.plan_model.specs.declared.schedule.Wave.{Wave}
use Rattle.plan_model.proofs.DistinctFacts.{Differ, differ_rising}
use Rattle.orders.specs.Orders as core
use Rattle.orders.proofs.CountLaws.{all_same}
use Rattle.orders.proofs.InTurnLaws.{order_exists}
use Rattle.engine_model.specs.Machines.{machine}
use Rattle.engine_model.specs.Laws.{BlocksRun, OrdersNeverShow}
use Rattle.engine_model.proofs.PlanLaws.{of_is_in}
use Rattle.engine_model.proofs.RunLaws.{block_runs, all_apart}

distinct : (vs : List ℕ) → Differ vs → core.AreDistinct vs
distinct [] d = tt
distinct (v ∷ vs) d = (false_from_ne_true (core.is_in v vs) (λ i. d.0 (of_is_in v vs i)), distinct vs d.1)

-- the order of one thread
abbrev pub one_thread : ℕ → List Wave → List (List ℕ)
one_thread n waves = map (λ w. core.in_turn n (names w)) waves

pub some_order : (n : ℕ) (waves : List Wave) → All (λ w. IsStrictlyIncreasing (names w)) waves → core.AreOrdersOf n (map names waves) (one_thread n waves)
some_order n [] up = tt
some_order n (w ∷ ws) up = (
  order_exists n (names w) (distinct (names w) (differ_rising (names w) (All-head (λ w. IsStrictlyIncreasing (names w)) w ws up))),
  some_order n ws (All-tail (λ w. IsStrictlyIncreasing (names w)) w ws up),
)

pub blocks_run : BlocksRun
blocks_run g plan x block T n orders s sound c brings o at v on = block_runs g plan sound c (positions plan) block x T n brings orders s o at v on

pub orders_never_show : OrdersNeverShow
orders_never_show g plan block n first second s sound c o q =
    all_same (machine g (positions plan) plan.homes block) n (map names plan.waves) first second s s (all_apart g plan sound c (positions plan) block) o q (record { kept = λ v. refl; pool = λ b j. refl })

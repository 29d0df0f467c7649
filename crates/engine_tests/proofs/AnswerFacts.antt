-- The graph of a test, with its alignments.
use Rattle.std.proofs.Common.{◌≡◌, ℕ, ◌≤◌, List, [], ◌∷◌, map, refl, arith}
use Rattle.std.proofs.lemmas.List.Elements.{All-from_recursion}
use Rattle.graph_model.specs.Paths.{leads, live_connections, IsLive}
use Rattle.graph_model.proofs.Examples.{fan_out as example}
use Rattle.test_graphs.specs.Graphs.{joined, fan_out}
use Rattle.plan_model.specs.Alignments.{IsAfter, IsAlignment, position_in}
use Rattle.plan_model.specs.Rules.{AreLiveNodes}
use Rattle.plan_model.specs.declared.alignment.At.{At}
use Rattle.plan_model.proofs.Examples.{stands}
use Rattle.plan_model.proofs.ExampleAlignments.{live_input}
use Rattle.plan_model.proofs.ExampleTools.{all_nodes}

-- the output node at n, the others as early as they can be
abbrev pub ending_at : ℕ → List At
ending_at n = stands 1 0 ∷ stands 2 n ∷ stands 3 0 ∷ stands 4 0 ∷ []

live_3 : IsLive fan_out 3
live_3 = (3 ∷ [], (refl, (joined 3 0 2 0, (1, omega arith, refl), refl, refl), refl), (1, omega arith, refl))

live_4 : IsLive fan_out 4
live_4 = (4 ∷ [], (refl, (joined 4 0 2 0, (3, omega arith, refl), refl, refl), refl), (1, omega arith, refl))

pub all_named : (n : ℕ) → AreLiveNodes fan_out (map (λ a. a.uid.0) (ending_at n))
unfolding example
all_named n = all_nodes fan_out (omega arith, (omega arith, (omega arith, tt))) (live_input, (([], refl, (0, omega arith, refl)), (live_3, (live_4, tt))))

pub all_after : (n : ℕ) → 5 ≤ n → IsAlignment fan_out (position_in (ending_at n))
unfolding leads
all_after n l = record {
  input = λ live. refl;
  after = All-from_recursion (IsAfter fan_out (position_in (ending_at n))) (live_connections fan_out)
      (omega arith, (omega arith, (omega arith, (omega arith, (omega arith, (omega arith, tt))))));
}

use Rattle.std.proofs.Common.{◌≡◌, ℕ, ◌<◌, [], ◌∷◌, sym, subst}
use Rattle.shortest_paths.specs.Walks.{HasNoNegativeCycle, Reaches}
use Rattle.shortest_paths.proofs.Examples.{free_cycle, free_cycle_is_not_negative, free_cycle_is_reached}
use Rattle.plan_tests.proofs.walks.the_cheaper_of_two_walks_and_a_cycle_of_no_cost.Goals as goal

pub distances-requires-clause-cycles : goal.distances-requires-clause-cycles
distances-requires-clause-cycles g c =
    let same : (c.edge.result ∷ c.edge-2.result ∷ c.edge-3.result ∷ c.edge-4.result ∷ []) ≡ free_cycle =
    λ i. c.edge.ensures i ∷ c.edge-2.ensures i ∷ c.edge-3.ensures i ∷ c.edge-4.ensures i ∷ [] in
    subst (λ edges. HasNoNegativeCycle edges) (sym same) free_cycle_is_not_negative

pub distances-requires-clause-reached : goal.distances-requires-clause-reached
distances-requires-clause-reached g c =
    let same : (c.edge.result ∷ c.edge-2.result ∷ c.edge-3.result ∷ c.edge-4.result ∷ []) ≡ free_cycle =
    λ i. c.edge.ensures i ∷ c.edge-2.ensures i ∷ c.edge-3.ensures i ∷ c.edge-4.ensures i ∷ [] in
    subst (λ edges. (v : ℕ) → v < 3 → Reaches edges 0 v) (sym same) free_cycle_is_reached

use Rattle.std.proofs.Common.{◌≡◌, ℕ, ◌<◌, [], ◌∷◌, sym, subst}
use Rattle.shortest_paths.specs.Walks.{HasNoNegativeCycle, Reaches}
use Rattle.shortest_paths.proofs.Examples.{three_points, three_points_have_no_negative_cycle, three_points_are_reached}
use Rattle.plan_tests.proofs.walks.three_points.Goals as goal

pub distances-requires-clause-cycles : goal.distances-requires-clause-cycles
distances-requires-clause-cycles g c =
    let same : (c.edge.result ∷ c.edge-2.result ∷ c.edge-3.result ∷ []) ≡ three_points = λ i. c.edge.ensures i ∷ c.edge-2.ensures i ∷ c.edge-3.ensures i ∷ [] in
    subst (λ edges. HasNoNegativeCycle edges) (sym same) three_points_have_no_negative_cycle

pub distances-requires-clause-reached : goal.distances-requires-clause-reached
distances-requires-clause-reached g c =
    let same : (c.edge.result ∷ c.edge-2.result ∷ c.edge-3.result ∷ []) ≡ three_points = λ i. c.edge.ensures i ∷ c.edge-2.ensures i ∷ c.edge-3.ensures i ∷ [] in
    subst (λ edges. (v : ℕ) → v < 3 → Reaches edges 0 v) (sym same) three_points_are_reached

use Rattle.std.proofs.Common.{◌≡◌, ℕ, ◌<◌, [], ◌∷◌, sym, subst}
use Rattle.shortest_paths.specs.Walks.{Reaches}
use Rattle.shortest_paths.proofs.Examples.{two_walks, two_walks_are_reached}
use Rattle.plan_tests.proofs.walks.the_nearer_of_two_walks.Goals as goal

pub nearest-requires-clause-reached : goal.nearest-requires-clause-reached
nearest-requires-clause-reached g c =
    let same : (c.edge.result ∷ c.edge-2.result ∷ c.edge-3.result ∷ []) ≡ two_walks = λ i. c.edge.ensures i ∷ c.edge-2.ensures i ∷ c.edge-3.ensures i ∷ [] in
    subst (λ edges. (v : ℕ) → v < 3 → Reaches edges 0 v) (sym same) two_walks_are_reached

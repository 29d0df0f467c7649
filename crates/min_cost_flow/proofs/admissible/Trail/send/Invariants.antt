use Rattle.std.proofs.Common.{ℕ, length}
use Rattle.min_cost_flow.specs.Search.{potential_of}
use Rattle.min_cost_flow.specs.Admissible.{IsAdmissiblePath, IsTrail}
use Rattle.min_cost_flow.proofs.AdmissibleFacts.{IsSpread}
use Rattle.min_cost_flow.proofs.admissible.Trail.send.Given as goal

abbrev pub invariant-loop-index : goal.invariant-loop-index
invariant-loop-index l = record {
  trail : IsTrail l.net l.walks l.self;
  spread : (from to : ℕ) → IsAdmissiblePath l.net.arcs (potential_of l.walks.search.numbers.items) from l.fn.self.path.items to → IsSpread l.net.arcs (potential_of l.walks.search.numbers.items) l.fn.flow from to l.units (length l.fn.self.path.items) l.flow l.self.path.items;
}

abbrev pub decreases-loop-index : goal.decreases-loop-index
decreases-loop-index l = length l.self.path.items

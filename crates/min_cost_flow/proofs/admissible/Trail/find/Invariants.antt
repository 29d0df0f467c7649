use Rattle.std.proofs.Common.{◌<◌, ◌≤◌, length}
use Rattle.min_cost_flow.specs.Search.{potential_of}
use Rattle.min_cost_flow.specs.Admissible.{IsAdmissiblePath, IsTrail}
use Rattle.min_cost_flow.proofs.admissible.Trail.find.Given as goal

abbrev pub invariant-loop : goal.invariant-loop
invariant-loop l = record {
  trail : IsTrail l.net l.walks l.self;
  at : l.at < l.net.points;
  path : IsAdmissiblePath l.net.arcs (potential_of l.walks.search.numbers.items) l.from l.self.path.items l.at;
  short : length l.self.path.items ≤ l.counter;
}

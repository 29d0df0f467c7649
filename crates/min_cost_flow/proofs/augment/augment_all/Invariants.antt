use Rattle.std.proofs.Common.{◌<◌}
use Rattle.min_cost_flow.specs.Flow.{IsTight}
use Rattle.min_cost_flow.specs.Search.{potential_of}
use Rattle.min_cost_flow.specs.Solve.{IsMeeting, wanted}
use Rattle.min_cost_flow.proofs.augment.augment_all.Given as goal

abbrev pub invariant-loop-to : goal.invariant-loop-to
invariant-loop-to l = record {
  meeting : IsMeeting l.net l.flow l.unmet;
  tight : IsTight l.net.arcs l.flow (potential_of l.walks.search.numbers.items);
  fewer : wanted l.unmet < wanted l.fn.unmet;
}

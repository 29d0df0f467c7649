use Rattle.std.proofs.Common.{◌<◌}
use Rattle.min_cost_flow.proofs.CarryFacts.{IsCarrying}
use Rattle.min_cost_flow.proofs.send.carried_to.Given as goal

abbrev pub invariant-loop : goal.invariant-loop
invariant-loop l = record {
  at : l.at < l.net.points;
  carrying : IsCarrying l.net l.flow l.walks.residual l.walks.search l.walks.from l.to l.most l.units l.at l.counter;
}

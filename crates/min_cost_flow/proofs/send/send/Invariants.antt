use Rattle.std.proofs.Common.{◌<◌}
use Rattle.min_cost_flow.proofs.SendFacts.{IsSending}
use Rattle.min_cost_flow.proofs.send.send.Given as goal

abbrev pub invariant-loop : goal.invariant-loop
invariant-loop l = record {
  at : l.at < l.net.points;
  sending : IsSending l.net.arcs l.fn.flow l.walks.residual.edges.items l.walks.search.last.items l.walks.from l.to l.units l.flow l.at l.counter;
}

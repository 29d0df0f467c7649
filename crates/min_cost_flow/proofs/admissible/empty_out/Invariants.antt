use Rattle.min_cost_flow.specs.Search.{IsReady}
use Rattle.min_cost_flow.specs.Solve.{IsMeeting, wanted}
use Rattle.min_cost_flow.specs.Admissible.{IsTrail}
use Rattle.min_cost_flow.proofs.admissible.empty_out.Given as goal

abbrev pub invariant-loop-trail : goal.invariant-loop-trail
invariant-loop-trail l = record { meeting : IsMeeting l.net l.flow l.unmet; ready : IsReady l.net l.flow l.walks; trail : IsTrail l.net l.walks l.trail }

abbrev pub decreases-loop-trail : goal.decreases-loop-trail
decreases-loop-trail l = wanted l.unmet

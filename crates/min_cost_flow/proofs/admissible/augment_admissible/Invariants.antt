use Rattle.min_cost_flow.specs.Search.{IsReady}
use Rattle.min_cost_flow.specs.Solve.{IsMeeting}
use Rattle.min_cost_flow.specs.Admissible.{IsTrail}
use Rattle.min_cost_flow.proofs.admissible.augment_admissible.Given as goal

abbrev pub invariant-loop-from : goal.invariant-loop-from
invariant-loop-from l = record { meeting : IsMeeting l.net l.flow l.unmet; ready : IsReady l.net l.flow l.walks; trail : IsTrail l.net l.walks l.trail }

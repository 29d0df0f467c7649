use Rattle.renderer.specs.Positions.{position_at}
use Rattle.renderer.proofs.RouteFacts.{AreRoutesUpTo}
use Rattle.renderer.proofs.routes.routes.Given as goal

-- the live ones of the connections so far
abbrev pub invariant-loop-connection : goal.invariant-loop-connection
invariant-loop-connection l = AreRoutesUpTo l.connection-index l.checked (position_at l.checked l.positions) l.routes.items

use Rattle.connections.specs.Places.{joint}
use Rattle.connections.proofs.joints.note.Goals as goal

pub returns-clause-noted : goal.returns-clause-noted
returns-clause-noted c = λ connection. c.in_ok-insert.ensures.updates.0 (joint connection)

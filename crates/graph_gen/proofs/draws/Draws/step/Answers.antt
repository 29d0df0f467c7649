-- A step.
use Rattle.graph_gen.proofs.StepFacts.{next_is}
use Rattle.graph_gen.proofs.draws.Draws.step.Goals as goal

pub returns-clause-state : goal.returns-clause-state
returns-clause-state c = next_is c.args.self.now.state

pub returns-clause-given : goal.returns-clause-given
returns-clause-given c = next_is c.args.self.now.state

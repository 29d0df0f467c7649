use Rattle.topology.proofs.LiveFacts.{live_tested}
use Rattle.topology.proofs.laws.live_is_listed.Goals as goal

pub returns : goal.returns
returns c = live_tested

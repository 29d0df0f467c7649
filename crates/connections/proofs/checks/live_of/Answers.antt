use Rattle.std.proofs.lemmas.Result.{IfOk-weaker}
use Rattle.topology.proofs.LiveFacts.{live_tested}
use Rattle.headroom.proofs.FoundFacts.{named}
use Rattle.connections.proofs.checks.live_of.Goals as goal

pub returns : goal.returns
returns c =
    IfOk-weaker c.live.result _ _
    (λ marks. live_tested c.args.graph.now marks (named c.args.graph.now c.requires.fits c.requires.shaped) c.requires.shaped.ends.1 c.requires.shaped.acyclic) c.live.ensures

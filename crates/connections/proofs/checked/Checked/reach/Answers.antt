use Rattle.std.proofs.Common.{◌∙◌}
use Rattle.graph_model.specs.Paths.{reach}
use Rattle.connections.proofs.NodeFacts.{kept_at}
use Rattle.connections.proofs.checked.Checked.reach.Goals as goal

pub returns : goal.returns
returns c = kept_at reach c.args.self.now c.self.inside.graph c.as_slice.result.now c.args.node 0 c.self.view_is c.requires (c.as_slice.ensures ∙ c.self.invariant.reach.at)

use Rattle.std.proofs.Common.{◌∙◌, false}
use Rattle.graph_model.specs.Paths.{is_live}
use Rattle.connections.proofs.NodeFacts.{kept_at}
use Rattle.connections.proofs.checked.Checked.is_live.Goals as goal

pub returns : goal.returns
returns c = kept_at is_live c.args.self.now c.self.inside.graph c.as_slice.result.now c.args.node false c.self.view_is c.requires (c.as_slice.ensures ∙ c.self.invariant.live)

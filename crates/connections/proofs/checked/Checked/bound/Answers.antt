use Rattle.std.proofs.Common.{◌∙◌}
use Rattle.graph_model.specs.Bounds.{bounds}
use Rattle.connections.proofs.NodeFacts.{kept_at}
use Rattle.connections.proofs.checked.Checked.bound.Goals as goal

pub returns : goal.returns
returns c =
    c.index-as_slice-node.is
    ∙ kept_at bounds c.args.self.now c.self.inside.graph c.as_slice.result.now c.args.node c.index-as_slice-node.result c.self.view_is c.requires (c.as_slice.ensures ∙ c.self.invariant.bounds)

use Rattle.std.proofs.Common.{◌∙◌, ap, refl, false}
use Rattle.graph_model.specs.Paths.{is_live}
use Rattle.connections.proofs.NodeFacts.{kept_at}
use Rattle.connections.proofs.limits.is_live.Goals as goal

pub returns : goal.returns
returns c =
    kept_at is_live c.args.graph.now c.args.graph.now c.args.live.now c.index_of.result false refl c.index_of.ensures.within c.requires.live ∙ ap (is_live c.args.graph.now) c.index_of.ensures.name

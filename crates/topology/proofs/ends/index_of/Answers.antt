use Rattle.std.proofs.Common.{◌∙◌, ap, sym}
use Rattle.std.specs.Option.{is_some, option_copied}
use Rattle.topology.proofs.IndexFacts.{copied_there, has_index, index_is}
use Rattle.topology.proofs.ends.index_of.Goals as goal

pub unwrap-requires : goal.unwrap-requires
unwrap-requires c = copied_there c.get.result (ap is_some c.get.ensures.value ∙ has_index c.args.graph.now c.args.indexes.now c.args.uid.0 c.requires.indexes c.requires.node)

pub returns-clause-within : goal.returns-clause-within
returns-clause-within c =
    (index_is c.args.graph.now c.args.indexes.now c.args.uid.0 c.unwrap.result.now c.requires.indexes (sym c.get.ensures.value ∙ ap option_copied c.unwrap.ensures)).0

pub returns-clause-name : goal.returns-clause-name
returns-clause-name c =
    (index_is c.args.graph.now c.args.indexes.now c.args.uid.0 c.unwrap.result.now c.requires.indexes (sym c.get.ensures.value ∙ ap option_copied c.unwrap.ensures)).1
